-- Law 8: the pure search gives the verdict of the definitions, for every lawful trellis, every room and allowance, and every cap from
-- 2 on. Where it finds the terminal, its count is how many messages share the least metric, stopped at the cap, and its trace is a
-- least path. This is what the program cites. Assumes nothing.
use mathlib.Core.Path.{◌≡◌, sym, ap, ◌∙◌, subst}
use Prim.Native.Nat.{ℕ, ◌≤◌}
use native.Mathlib.Omega.{arith}
use Rattle.trellis.specs.Trellis.{Trellis}
use Rattle.trellis.specs.Verdict.{room_short, steps, met, verdict}
use Rattle.trellis.specs.Lawful.{Lawful}
use Rattle.trellis.specs.Search.{row_at, cost_at, found, Ended, searched, read, verdict_of}
use Rattle.trellis.proofs.Verdicts.{verdict_none, verdict_full, verdict_spent, verdict_found}
use Rattle.trellis.proofs.Between.{between_met}
use Rattle.trellis.proofs.Found.{Right, found_right, found_decided}
use Rattle.trellis.proofs.Run.{Ending, no_room, at_terminal, out_of_room, out_of_steps, searched_ending}

module _ {t : Trellis} (law : Lawful t) (cap room allowance : ℕ) where
  -- the verdict, by how the search ended
  ending_verdict : 2 ≤ cap → {e : Ended} → Ending t cap room allowance e → verdict_of t e ≡ verdict t room allowance
  unfolding read
  ending_verdict two (no_room z e) =
      ap (verdict_of t) e ∙ sym (subst (λ (r : ℕ). verdict t r allowance ≡ room_short 0) (sym z) (verdict_none t allowance))
  ending_verdict two (at_terminal j i rows inv f h q l e) =
      let s : steps t ≡ j = (found_right law inv f h q).ended in
      let w : met t (steps t) ≤ room = rw (s, ← between_met inv) inv.held in
      ap (verdict_of t) e ∙ found_decided law inv f h q two ∙ sym (verdict_found t room allowance (omega arith) w)
  ending_verdict two (out_of_room j rows h k p q e) = ap (verdict_of t) e ∙ sym (verdict_full t room allowance j h k p q)
  ending_verdict two (out_of_steps rows h p e) = ap (verdict_of t) e ∙ sym (verdict_spent t room allowance h p)

  -- THE SEARCH'S VERDICT is the verdict of the definitions
  pub searched_verdict : 2 ≤ cap → verdict_of t (searched t cap room allowance) ≡ verdict t room allowance
  searched_verdict two = ending_verdict two (searched_ending law cap room allowance (omega arith))

  -- where the terminal is found, the numbers and the trace are right
  pub searched_right : 1 ≤ cap → (metric done count i : ℕ) → (searched t cap room allowance).outcome ≡ found metric done count i
      → Right t cap (searched t cap room allowance).rows metric done count i
  searched_right one metric done count i = go (searched_ending law cap room allowance one)
    where
      go : {e : Ended} → Ending t cap room allowance e → e.outcome ≡ found metric done count i → Right t cap e.rows metric done count i
      go (no_room z e) p = let n : ◌≡◌ {A = ℕ} 0 1 = cc (e, p) in absurd (omega arith)
      go (at_terminal j k rows inv f h q l e) p =
          let w : found (cost_at rows k) j (row_at rows k).count k ≡ found metric done count i = ap (λ (x : Ended). x.outcome) (sym e) ∙ p in
          let c : cost_at rows k ≡ metric = cc (w) in
          let v : j ≡ done = cc (w) in
          let n : (row_at rows k).count ≡ count = cc (w) in
          let m : k ≡ i = cc (w) in
          let r : rows ≡ _ = ap (λ (x : Ended). x.rows) (sym e) in
          rw (← r, ← c, ← v, ← n, ← m) (found_right law inv f h q)
      go (out_of_room j rows h k r q e) p = let n : ◌≡◌ {A = ℕ} 0 1 = cc (e, p) in absurd (omega arith)
      go (out_of_steps rows h r e) p = let n : ◌≡◌ {A = ℕ} 0 1 = cc (e, p) in absurd (omega arith)
