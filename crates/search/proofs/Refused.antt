-- When a decode refuses after its tests are passed, in the reader's words. 3: the steps are the greatest j with D(j) at most R.
-- 4: B is below E. 5: two messages have the least metric. Of any decode, and of `decode`. When it answers is in Answers. Assumes nothing.
use mathlib.Core.Path.{◌≡◌, refl, sym, ap, subst, ◌∙◌}
use mathlib.Core.List.{List}
use mathlib.Core.Bool.{Bool, true}
use Prim.Native.Nat.{ℕ}
use native.Mathlib.Omega.{arith}
use lib.IntN.{ℤ}
use Rattle.desk.specs.Desk.{Handed}
use Rattle.codes.specs.declared.table.Code.{Code}
use Rattle.trellis.specs.Trellis.{Trellis}
use Rattle.trellis.specs.Lawful.{Lawful}
use Rattle.trellis.specs.Verdict.{Verdict, answered, room_short, allowance_spent, tied, verdict}
use Rattle.trellis.proofs.Refused.{NoRoom, room_short_out, NoAllowance, allowance_spent_out, Tied, tied_out}
use Rattle.blocks.specs.Symbols.{view}
use Rattle.blocks.specs.Blocks.{trellis_of}
use Rattle.blocks.proofs.Closing.{trellis_lawful}
use Rattle.search.specs.Decoding.{given, decode_desk, decoding}
use Rattle.search.proofs.Answers.{beyond_tests, desk_verdict}

-- ---- any decode

module _ (rules sizes form : Bool) (t : Trellis) (room allowance : ℕ) (message : List ℕ) where
  abbrev desk : Handed (List ℕ)
  desk = decode_desk rules sizes form t room allowance message

  -- what holds of every verdict of a number holds of every call of that number, if the number is no test's
  refused : (n : ℕ) (P : Handed (List ℕ) → Type 0) → (n ≡ 1 → ⊥) → (n ≡ 2 → ⊥) → (n ≡ 6 → ⊥)
      → ((v : Verdict) → verdict t room allowance ≡ v → (given v message).reply.number ≡ n → P (given v message)) → desk.reply.number ≡ n → P desk
  refused n P n1 n2 n6 f e =
      let p = beyond_tests rules sizes form t room allowance message (λ q. n1 (sym e ∙ q)) (λ q. n2 (sym e ∙ q)) (λ q. n6 (sym e ∙ q)) in
      let b = desk_verdict rules sizes form t room allowance message p.0 p.1 p.2 in
      subst P (sym b) (f (verdict t room allowance) refl (ap (λ (h : Handed (List ℕ)). h.reply.number) (sym b) ∙ e))

  -- for the reader of refusal 3
  pub desk_room_out : desk.reply.number ≡ 3 → NoRoom t room allowance desk.reply.steps
  unfolding given
  desk_room_out = refused 3 (λ x. NoRoom t room allowance x.reply.steps) (λ e. omega arith) (λ e. omega arith) (λ e. omega arith) here
    where
      here : (v : Verdict) → verdict t room allowance ≡ v → (given v message).reply.number ≡ 3 → NoRoom t room allowance (given v message).reply.steps
      here (answered w m done) e z = absurd (omega arith)
      here (room_short done) e z = room_short_out t room allowance done e
      here (allowance_spent done) e z = absurd (omega arith)
      here (tied m done) e z = absurd (omega arith)

  -- of refusal 4
  pub desk_allowance_out : desk.reply.number ≡ 4 → NoAllowance t room allowance desk.reply.steps
  unfolding given
  desk_allowance_out = refused 4 (λ x. NoAllowance t room allowance x.reply.steps) (λ e. omega arith) (λ e. omega arith) (λ e. omega arith) here
    where
      here : (v : Verdict) → verdict t room allowance ≡ v → (given v message).reply.number ≡ 4 → NoAllowance t room allowance (given v message).reply.steps
      here (answered w m done) e z = absurd (omega arith)
      here (room_short done) e z = absurd (omega arith)
      here (allowance_spent done) e z = allowance_spent_out t room allowance done e
      here (tied m done) e z = absurd (omega arith)

  -- and of refusal 5
  pub desk_tie_out : Lawful t → desk.reply.number ≡ 5 → Tied t room allowance desk.reply.metric desk.reply.steps
  unfolding given
  desk_tie_out law = refused 5 (λ x. Tied t room allowance x.reply.metric x.reply.steps) (λ e. omega arith) (λ e. omega arith) (λ e. omega arith) here
    where
      here : (v : Verdict) → verdict t room allowance ≡ v → (given v message).reply.number ≡ 5
          → Tied t room allowance (given v message).reply.metric (given v message).reply.steps
      here (answered w m done) e z = absurd (omega arith)
      here (room_short done) e z = absurd (omega arith)
      here (allowance_spent done) e z = absurd (omega arith)
      here (tied m done) e z = tied_out law room allowance m done e

-- ---- a decode of symbols

module _ (c : Code) (l : ℕ) (symbols : List ℤ) (room allowance words : ℕ) (message : List ℕ) where
  abbrev own : Trellis
  own = trellis_of c l (view symbols)

  abbrev d : Handed (List ℕ)
  d = decoding c l symbols room allowance words message

  pub room_out : d.reply.number ≡ 3 → NoRoom own room allowance d.reply.steps
  unfolding decoding
  room_out = desk_room_out _ _ true own room allowance message

  pub allowance_out : d.reply.number ≡ 4 → NoAllowance own room allowance d.reply.steps
  unfolding decoding
  allowance_out = desk_allowance_out _ _ true own room allowance message

  pub tie_out : d.reply.number ≡ 5 → Tied own room allowance d.reply.metric d.reply.steps
  unfolding decoding
  tie_out = desk_tie_out _ _ true own room allowance message (trellis_lawful c l (view symbols))
