-- The cost that a sorted list gives a node: it is that of the node's one entry, if there is one; and being listed, with just a cost or
-- within one, is a test of it. Assumes nothing.
use mathlib.Core.Path.{◌≡◌, refl, sym, ap, ◌∙◌, subst}
use mathlib.Core.List.{List, [], ◌∷◌}
use mathlib.Core.Bool.{Bool}
use Prim.Native.Nat.{ℕ, suc, ◌<◌}
use native.Mathlib.Omega.{arith}
use lib.Dec.{T, eqb, leb}
use lib.ListN.{length, get_or}
use Rattle.std.specs.Prelude.{Option, Some, None}
use Rattle.lists.proofs.Tests.{test, true_out, false_out}
use Rattle.lists.proofs.Membership.{◌∈◌, here, further, member_cast}
use Rattle.lists.proofs.Sorted.{Sorted}
use Rattle.lists.proofs.Decides.{Decides, equal, at_most}
use Rattle.trellis.specs.Trellis.{Node, same}
use Rattle.trellis.specs.Verdict.{Entry}
use Rattle.trellis.proofs.Paths.{same_equality}
use Rattle.trellis.proofs.Order.{earlier_order, entry_path}
use Rattle.trellis.proofs.Honest.{lower}
use Rattle.trellis.proofs.SheetTests.{Listed}
use Rattle.sheets.specs.Work.{listed_cost, some_and}

-- how it goes on, where it is known if the first entry is the node's
cost_here : (e : Entry) (es : List Entry) (x : Node) → e.node ≡ x → listed_cost (e ∷ es) x ≡ Some e.cost
unfolding listed_cost
cost_here e es x h = rw (true_out (same e.node x) (subst (λ (y : Node). T (same e.node y)) h (same_equality.complete e.node)))

cost_further : (e : Entry) (es : List Entry) (x : Node) → (e.node ≡ x → ⊥) → listed_cost (e ∷ es) x ≡ listed_cost es x
unfolding listed_cost
cost_further e es x h = rw (false_out (same e.node x) (λ t. h (same_equality.sound e.node x t)))

-- an entry's cost is the one that is listed
pub listed_one : (es : List Entry) → Sorted lower es → {e : Entry} → e ∈ es → listed_cost es e.node ≡ Some e.cost
listed_one [] s {e = e} m = elim m [ ]
listed_one (f ∷ es) s {e} (here h) = cost_here f es e.node (ap (λ (g : Entry). g.node) (sym h)) ∙ ap (λ (g : Entry). Some g.cost) (sym h)
listed_one (f ∷ es) s {e} (further m) =
    cost_further f es e.node (λ h. earlier_order.irrefl e.node (subst (λ (x : Node). T (lower (record { cost = 0; node = x }) e)) h (s.0 e m)))
    ∙ listed_one es s.1 m

-- a cost that is listed is an entry's
listed_from : (es : List Entry) (x : Node) (c : ℕ) → listed_cost es x ≡ Some c → record { cost = c; node = x } ∈ es
unfolding listed_cost
listed_from [] x c h = let z : ◌≡◌ {A = ℕ} 0 1 = cc in absurd (omega arith)
listed_from (e ∷ es) x c h = go (test (same e.node x)) (λ k. listed_from es x c k)
  where
    go : Dec (T (same e.node x)) → (listed_cost es x ≡ Some c → record { cost = c; node = x } ∈ es) → record { cost = c; node = x } ∈ (e ∷ es)
    go (yes t) ih = let k = same_equality.sound e.node x t in let q : e.cost ≡ c = cc (cost_here e es x k, h) in here (entry_path (sym q) (sym k))
    go (no n) ih =
        further (ih (sym (cost_further e es x (λ q. n (subst (λ (y : Node). T (same e.node y)) q (same_equality.complete e.node)))) ∙ h))

-- a node that no place holds is not listed
pub listed_none : (es : List Entry) (d : Entry) (x : Node) → ((i : ℕ) → i < length es → (get_or es i d).node ≡ x → ⊥) → listed_cost es x ≡ None
unfolding listed_cost
listed_none [] d x h = refl
listed_none (e ∷ es) d x h = cost_further e es x (h 0 (omega arith)) ∙ listed_none es d x (λ i l. h (suc i) (omega arith))

-- ---- a test of it

-- a cost that passes is there
some_out : (o : Option ℕ) (p : ℕ → Bool) → T (some_and o p) → (c : ℕ) × (o ≡ Some c) × T (p c)
some_out None p h = elim h [ ]
some_out (Some c) p h = (c, refl, h)

-- and back
some_in : {o : Option ℕ} {c : ℕ} (p : ℕ → Bool) → o ≡ Some c → T (p c) → T (some_and o p)
some_in p e h = rw e h

module _ (es : List Entry) (s : Sorted lower es) (x : Node) (c : ℕ) where
  -- for A and C: listed with just this cost
  pub equal_cost : Decides (some_and (listed_cost es x) (λ d. eqb d c)) (record { cost = c; node = x } ∈ es)
  equal_cost = record { out = out; into = (λ m. some_in (λ d. eqb d c) (listed_one es s m) ((equal c c).into refl)) }
    where
      out : T (some_and (listed_cost es x) (λ d. eqb d c)) → record { cost = c; node = x } ∈ es
      out h =
          let o = some_out (listed_cost es x) (λ d. eqb d c) h in
          member_cast (entry_path (sym ((equal o.0 c).out o.2)) refl) (listed_from es x o.0 o.1)

  -- for B: listed with a cost of at most this
  pub within_cost : Decides (some_and (listed_cost es x) (λ d. leb d c)) (Listed es x c)
  within_cost = record { out = out; into = into }
    where
      out : T (some_and (listed_cost es x) (λ d. leb d c)) → Listed es x c
      out h =
          let o = some_out (listed_cost es x) (λ d. leb d c) h in
          record { cost = o.0; here = listed_from es x o.0 o.1; small = (at_most o.0 c).out o.2 }

      into : Listed es x c → T (some_and (listed_cost es x) (λ d. leb d c))
      into l = some_in (λ d. leb d c) (listed_one es s l.here) ((at_most l.cost c).into l.small)
