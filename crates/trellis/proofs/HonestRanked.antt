-- Laws 7 and 8: the honest sheet of the least metric M has the first E + 1 ranked nodes, the terminal the last of them, and nothing else:
-- so a search that ends at the terminal has met them all. Where the rows hold them is in HonestRows. Assumes nothing.
use mathlib.Core.Path.{◌≡◌, refl, sym, ap, ◌∙◌, subst}
use mathlib.Core.Logic.{◌⊎◌, inl, inr}
use mathlib.Core.List.{[], ◌∷◌, ◌++◌}
use Prim.Native.Nat.{suc, ◌≤◌}
use native.Mathlib.Omega.{arith}
use lib.Dec.{T}
use lib.ListN.{length, take, length-take}
use Rattle.lists.proofs.Membership.{◌∈◌, here, append_out, append_right, singleton_out, Every, Within, take_out}
use Rattle.lists.proofs.Unique.{same_length}
use Rattle.lists.proofs.Sorted.{Sorted, take_sorted, take_or_after, sorted_append, irreflexive_unique}
use Rattle.trellis.specs.Trellis.{Trellis, terminal}
use Rattle.trellis.specs.Verdict.{Entry, priced, before, ranked, steps, least_metric}
use Rattle.trellis.specs.Sheet.{honest}
use Rattle.trellis.specs.Lawful.{Lawful}
use Rattle.trellis.proofs.Paths.{path_short}
use Rattle.trellis.proofs.Cost.{cost_computed}
use Rattle.trellis.proofs.Order.{Earlier, Before, earlier_order, before_out}
use Rattle.trellis.proofs.Ranked.{ranked_in, ranked_out, ranked_sorted}
use Rattle.trellis.proofs.Messages.{terminal_reached, least_metric_cost}
use Rattle.trellis.proofs.MetNodes.{front_unique, terminal_comes, steps_few}
use Rattle.trellis.proofs.Honest.{Due, lower, honest_in, honest_out, honest_sorted}

module _ {t : Trellis} (law : Lawful t) where
  abbrev z : Entry
  z = priced t (terminal t)

  -- it costs the least metric
  least_cost : least_metric t ≡ z.cost
  least_cost = cost_computed (least_metric_cost law)

  -- nothing that costs as much stands behind the terminal: at its level only its state is reached
  terminal_last : (e : Entry) → Due t (least_metric t) e → T (before z e) → ⊥
  terminal_last e d b = go (before_out z e b)
    where
      level : Earlier (terminal t) e.node → ⊥
      level (inl h) = omega (arith, path_short d.priced.there.allowed, d.priced.there.level)
      level (inr h) =
          let there = d.priced.there in
          omega (arith, law.closes d.priced.path there.allowed (there.level ∙ sym h.0), there.state, h.1)

      go : Before z e → ⊥
      go (inl h) = omega (arith, d.within, least_cost)
      go (inr h) = level h.1

  -- nothing of the sheet stands behind the first E + 1 ranked nodes
  pub honest_front : Within (honest t (least_metric t)) (take (suc (steps t)) (ranked t))
  honest_front e m =
      let d : Due t (least_metric t) e = honest_out t (least_metric t) m in
      go d (take_or_after before (suc (steps t)) (ranked t) (ranked_sorted t) e (ranked_in d.priced))
    where
      go : Due t (least_metric t) e → (e ∈ take (suc (steps t)) (ranked t)) ⊎ Every (λ x. T (before x e)) (take (suc (steps t)) (ranked t))
          → e ∈ take (suc (steps t)) (ranked t)
      go d (inl k) = k
      go d (inr f) =
          absurd (terminal_last e d (f z (rw (terminal_comes t (terminal_reached law)) (append_right (take (steps t) (ranked t)) (here refl)))))

  -- and all of them are in it
  pub front_honest : Within (take (suc (steps t)) (ranked t)) (honest t (least_metric t))
  front_honest e m = honest_in t (least_metric t) (record {
    priced = ranked_out t (take_out (suc (steps t)) (ranked t) e m);
    within = go (append_out (take (steps t) (ranked t)) (rw comes at m));
  })
    where
      comes : take (suc (steps t)) (ranked t) ≡ take (steps t) (ranked t) ++ (z ∷ [])
      comes = terminal_comes t (terminal_reached law)

      sorted : Sorted before (take (suc (steps t)) (ranked t))
      sorted = take_sorted before (suc (steps t)) (ranked t) (ranked_sorted t)

      low : Before e z → e.cost ≤ least_metric t
      low (inl h) = omega (arith, least_cost)
      low (inr h) = omega (arith, h.0, least_cost)

      go : (e ∈ take (steps t) (ranked t)) ⊎ (e ∈ (z ∷ [])) → e.cost ≤ least_metric t
      go (inl k) = low (before_out e z (sorted_append before (take (steps t) (ranked t)) [] z (subst (Sorted before) comes sorted) e k))
      go (inr k) = omega (arith, ap (λ (u : Entry). u.cost) (singleton_out k), least_cost)

  -- for the sheet's size: E + 1 entries
  pub length_honest : length (honest t (least_metric t)) ≡ suc (steps t)
  length_honest =
      same_length (honest t (least_metric t)) (take (suc (steps t)) (ranked t))
      (irreflexive_unique lower (λ e. earlier_order.irrefl e.node) (honest t (least_metric t)) (honest_sorted t (least_metric t)))
      (front_unique t (suc (steps t))) honest_front front_honest
      ∙ omega (arith, length-take (suc (steps t)) (ranked t), steps_few t (terminal_reached law))
