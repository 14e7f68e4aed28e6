-- Law 2, the ranked nodes: sorted, none twice, and exactly the reachable nodes, each with its cost; and each of them but the origin has its
-- cost from a node ranked before it. (That a node's successors are all ranked after it does not hold: another path may reach a successor at
-- less than the node's own cost. What a branch brings stands later: onto_later, in Order.) Assumes nothing.
use mathlib.Core.Path.{◌≡◌, refl, sym, ap, subst}
use mathlib.Core.List.{map}
use Prim.Native.Nat.{ℕ, ◌<◌}
use lib.Dec.{T}
use Rattle.lists.proofs.Membership.{◌∈◌, member_cast, map_in, map_out}
use Rattle.lists.proofs.Unique.{Unique, map_unique}
use Rattle.lists.proofs.Sorted.{Sorted, sort_in, sort_out, sort_sorted, sorted_unique}
use Rattle.trellis.specs.Trellis.{Trellis, allowed, reachable}
use Rattle.trellis.specs.Verdict.{Entry, priced, before, ranked, onto}
use Rattle.trellis.proofs.Paths.{reachable_in, reachable_out, reachable_unique}
use Rattle.trellis.proofs.Cost.{Cost, cost_is, cost_computed}
use Rattle.trellis.proofs.Recurrence.{predecessor}
use Rattle.trellis.proofs.Order.{before_order, entry_path, onto_later}

-- the entry carries its node's cost
abbrev pub Priced : Trellis → Entry → Type 0
Priced t e = Cost t e.node e.cost

-- the ranked entries are the reachable nodes with their costs
pub ranked_in : {t : Trellis} {e : Entry} → Priced t e → e ∈ ranked t
unfolding ranked
ranked_in {t} {e} h =
    sort_in before (map (priced t) (reachable t)) e
    (member_cast (entry_path (cost_computed h) refl) (map_in (priced t) (reachable_in h.there)))

-- and back
pub ranked_out : (t : Trellis) {e : Entry} → e ∈ ranked t → Priced t e
unfolding ranked
ranked_out t {e} m =
    let r = map_out (priced t) (reachable t) (sort_out before (map (priced t) (reachable t)) e m) in
    subst (Priced t) (sym r.equal) (cost_is (reachable_out t r.member).there)

-- so that a front of the list is fixed by its members
pub ranked_sorted : (t : Trellis) → Sorted before (ranked t)
unfolding ranked
ranked_sorted t =
    sort_sorted before before_order (map (priced t) (reachable t))
    (map_unique (priced t) (reachable t) (λ x y m k e. ap (λ (u : Entry). u.node) e) (reachable_unique t))

-- so that ranked nodes can be counted
pub ranked_unique : (t : Trellis) → Unique (ranked t)
ranked_unique t = sorted_unique before before_order (ranked t) (ranked_sorted t)

-- the node ranked before e that e has its cost from, and the branch between them
pub record Foregoer (t : Trellis) (e : Entry) : Type 0 where
  pub from : Entry
  pub input : ℕ
  pub member : from ∈ ranked t
  pub fits : input < allowed t from.node.level
  pub gives : e ≡ onto t from input
  pub earlier : T (before from e)

-- every ranked node but the origin has one
pub foregoer : {t : Trellis} {e : Entry} → 0 < e.node.level → Priced t e → Foregoer t e
foregoer {t} {e} up h =
    let r = predecessor up h in
    let own : Entry = record { cost = r.spent; node = r.from } in
    let gives : e ≡ onto t own r.input = entry_path (sym r.paid) r.enters.leads in
    record {
      from = own;
      input = r.input;
      member = ranked_in r.known;
      fits = r.enters.fits;
      gives = gives;
      earlier = subst (λ (u : Entry). T (before own u)) (sym gives) (onto_later t own r.input);
    }
