-- Law 7, the honest sheet: exactly the reachable nodes of cost at most M, with their costs, strictly sorted by level, then state; the
-- terminal is among them where M is its cost. That it carries its claim is in SheetComplete. Assumes nothing.
use mathlib.Core.Path.{◌≡◌, refl, subst, sym}
use mathlib.Core.List.{List, map}
use mathlib.Core.Bool.{Bool}
use Prim.Native.Nat.{ℕ, ◌≤◌}
use native.Mathlib.Omega.{arith}
use lib.Dec.{leb, leb→le, le→leb}
use Rattle.lists.specs.Lists.{keep, sort}
use Rattle.lists.proofs.Membership.{◌∈◌, member_cast, Every, map_in, map_out, keep_in, keep_out}
use Rattle.lists.proofs.Unique.{keep_unique}
use Rattle.lists.proofs.Sorted.{Sorted, sort_in, sort_out, sort_sorted}
use Rattle.lists.proofs.Images.{keep_map, sort_map, map_sorted}
use Rattle.trellis.specs.Trellis.{Trellis, Node, terminal, reachable, cost}
use Rattle.trellis.specs.Verdict.{Entry, priced, earlier, least_metric}
use Rattle.trellis.specs.Sheet.{honest}
use Rattle.trellis.specs.Lawful.{Lawful}
use Rattle.trellis.proofs.Paths.{reachable_in, reachable_out, reachable_unique}
use Rattle.trellis.proofs.Cost.{cost_is, cost_computed}
use Rattle.trellis.proofs.Order.{earlier_order, entry_path}
use Rattle.trellis.proofs.Ranked.{Priced}
use Rattle.trellis.proofs.Messages.{least_metric_cost}

-- an entry that an honest sheet has: a reachable node with its cost, at most M
pub record Due (t : Trellis) (m : ℕ) (e : Entry) : Type 0 where
  pub priced : Priced t e
  pub within : e.cost ≤ m

-- 'An honest sheet lists exactly the reachable nodes of cost at most M, terminal included, with their costs'
pub record Honest (t : Trellis) (m : ℕ) (sheet : List Entry) : Type 0 where
  pub all : (e : Entry) → Due t m e → e ∈ sheet
  pub only : Every (Due t m) sheet

-- the sheet's order: by level, then state, whatever the costs
abbrev pub lower : Entry → Entry → Bool
lower x y = earlier x.node y.node

module _ (t : Trellis) (m : ℕ) where
  -- the entries, before they are sorted
  abbrev listing : List Entry
  listing = keep (λ e. leb e.cost m) (map (priced t) (reachable t))

  -- for completeness: nothing is left out
  pub honest_in : {e : Entry} → Due t m e → e ∈ honest t m
  unfolding honest
  honest_in {e} h =
      let own : e ≡ priced t e.node = entry_path (cost_computed h.priced) refl in
      sort_in lower listing e
      (keep_in (λ e. leb e.cost m) (member_cast own (map_in (priced t) (reachable_in h.priced.there))) (le→leb e.cost m h.within))

  -- for completeness: nothing else is in
  pub honest_out : {e : Entry} → e ∈ honest t m → Due t m e
  unfolding honest
  honest_out {e} k =
      let r = keep_out (λ e. leb e.cost m) (map (priced t) (reachable t)) (sort_out lower listing e k) in
      let s = map_out (priced t) (reachable t) r.member in
      record { priced = subst (Priced t) (sym s.equal) (cost_is (reachable_out t s.member).there); within = leb→le e.cost m r.passes }

  -- both: the computed sheet is an honest one
  pub honest_is : Honest t m (honest t m)
  honest_is = record { all = (λ e h. honest_in h); only = (λ e k. honest_out k) }

  -- for the sheet's form: 'They rise strictly by level, then state'
  pub honest_sorted : Sorted lower (honest t m)
  unfolding honest
  honest_sorted =
      rw (keep_map (priced t) (λ e. leb e.cost m) (reachable t), sort_map (priced t) lower)
      (map_sorted (priced t) lower (sort earlier cheap)
      (sort_sorted earlier earlier_order cheap (keep_unique (λ x. leb (cost t x) m) (reachable t) (reachable_unique t))))
    where
      cheap : List Node
      cheap = keep (λ x. leb (cost t x) m) (reachable t)

-- for the sheet's last entry: 'terminal included'
pub honest_terminal : {t : Trellis} → Lawful t → record { cost = least_metric t; node = terminal t } ∈ honest t (least_metric t)
honest_terminal {t} law = honest_in t (least_metric t) (record { priced = least_metric_cost law; within = omega arith })
