-- For law 8: the scan for the row that is first in an order, whatever the order and the rows that are asked for: what first_by finds.
-- Then its three uses: a node's row, the first open row, the closed row that comes next. Assumes nothing.
use mathlib.Core.Path.{◌≡◌, refl, subst}
use mathlib.Core.Logic.{◌⊎◌, inl, inr}
use mathlib.Core.List.{List, [], ◌∷◌}
use mathlib.Core.Bool.{Bool, true, false, not, cond, ◌&&◌}
use Prim.Native.Nat.{ℕ, zero, suc, ◌<◌}
use native.Mathlib.Omega.{arith}
use lib.Dec.{T, ltb, T_not}
use lib.ListN.{length}
use Rattle.lists.proofs.Tests.{test, true_in, true_out, false_out}
use Rattle.lists.proofs.Decides.{Decides, said, itself, together, less}
use Rattle.lists.proofs.Sorted.{Order}
use Rattle.trellis.specs.Trellis.{Node, same}
use Rattle.trellis.specs.Verdict.{earlier, before}
use Rattle.trellis.specs.Search.{Row, row_at, first_by, find_row, first_open, next_closed}
use Rattle.trellis.proofs.Paths.{same_equality}
use Rattle.trellis.proofs.Order.{earlier_order, before_order}

module _ {K : Type 0} (P : Row → Type 0) (key : Row → K) (by : K → K → Bool) where
  -- k is a row with P that no other comes before; it is no row if there is none
  pub record FirstBy (rows : List Row) (k : ℕ) : Type 0 where
    pub here : k < length rows → P (row_at rows k)
    pub some : (i : ℕ) → i < length rows → P (row_at rows i) → k < length rows
    pub least : (i : ℕ) → i < length rows → P (row_at rows i) → T (by (key (row_at rows i)) (key (row_at rows k))) → ⊥

module _ {K : Type 0} {eligible : Row → Bool} {P : Row → Type 0} {key : Row → K} {by : K → K → Bool}
    (decides : (r : Row) → Decides (eligible r) (P r)) (order : Order by) where
  -- THE SCAN: first_by finds it
  pub first_by_is : (rows : List Row) → FirstBy P key by rows (first_by eligible (λ r s. by (key r) (key s)) rows)
  unfolding first_by
  first_by_is [] = record { here = (λ h. absurd (omega arith)); some = (λ i h. absurd (omega arith)); least = (λ i h. absurd (omega arith)) }
  first_by_is (r ∷ rows) = go (test (eligible r)) (test ahead) (first_by_is rows)
    where
      k : ℕ
      k = first_by eligible (λ r s. by (key r) (key s)) rows

      z : K
      z = key (row_at rows k)

      -- the rest has a first, which comes before r
      ahead : Bool
      ahead = ltb k (length rows) && by z (key r)

      Ahead : Type 0
      Ahead = (k < length rows) × T (by z (key r))

      says : Decides ahead Ahead
      says = together (less k (length rows)) (itself (by z (key r)))

      -- it does, or r has not P
      skip : (P r → Ahead) → FirstBy P key by rows k → FirstBy P key by (r ∷ rows) (suc k)
      skip h f = record { here = (λ l. f.here (omega arith)); some = some'; least = least' }
        where
          some' : (i : ℕ) → i < suc (length rows) → P (row_at (r ∷ rows) i) → suc k < suc (length rows)
          some' zero l p = omega (arith, (h p).0)
          some' (suc i) l p = omega (arith, f.some i (omega arith) p)

          least' : (i : ℕ) → i < suc (length rows) → P (row_at (r ∷ rows) i) → T (by (key (row_at (r ∷ rows) i)) z) → ⊥
          least' zero l p b = order.irrefl z (order.trans z (key r) z (h p).1 b)
          least' (suc i) l p b = f.least i (omega arith) p b

      -- it does not
      stay : P r → (Ahead → ⊥) → FirstBy P key by rows k → FirstBy P key by (r ∷ rows) 0
      stay own d f = record { here = (λ _. own); some = (λ i l p. omega arith); least = least' }
        where
          least' : (i : ℕ) → i < suc (length rows) → P (row_at (r ∷ rows) i) → T (by (key (row_at (r ∷ rows) i)) (key r)) → ⊥
          least' zero l p b = order.irrefl (key r) b
          least' (suc i) l p b = pick (order.total z (key (row_at rows i)))
            where
              pick : T (by z (key (row_at rows i))) ⊎ ((z ≡ key (row_at rows i)) ⊎ T (by (key (row_at rows i)) z)) → ⊥
              pick (inl q) = d (f.some i (omega arith) p, order.trans z (key (row_at rows i)) (key r) q b)
              pick (inr (inl q)) = d (f.some i (omega arith) p, rw q b)
              pick (inr (inr q)) = f.least i (omega arith) p q

      go : Dec (T (eligible r)) → Dec (T ahead) → FirstBy P key by rows k
          → FirstBy P key by (r ∷ rows) (cond (eligible r) (cond ahead (suc k) 0) (suc k))
      go (no h) d f = rw (false_out (eligible r) h) (skip (λ p. absurd (h ((decides r).into p))) f)
      go (yes h) (yes l) f = rw (true_out (eligible r) h, true_out ahead l) (skip (λ _. says.out l) f)
      go (yes h) (no l) f = rw (true_out (eligible r) h, false_out ahead l) (stay ((decides r).out h) (λ a. l (says.into a)) f)

-- ---- its uses

-- a node's row, all rows standing equal
abbrev pub RowOf : Node → List Row → ℕ → Type 0
RowOf x = FirstBy (λ r. r.entry.node ≡ x) (λ _. tt {0}) (λ _ _. false)

-- for an arrival
pub find_row_is : (x : Node) (rows : List Row) → RowOf x rows (find_row x rows)
unfolding find_row
find_row_is x = first_by_is (λ r. own r.entry.node) (record { irrefl = (λ a h. h); trans = (λ a b c h k. h); total = (λ a b. inr (inl refl)) })
  where
    own : (y : Node) → Decides (same y x) (y ≡ x)
    own y = record { out = same_equality.sound y x; into = (λ e. subst (λ (z : Node). T (same y z)) e (same_equality.complete y)) }

-- the first open row
abbrev pub First : List Row → ℕ → Type 0
First = FirstBy (λ r. r.closed ≡ false) (λ r. r.entry) before

-- for the search's step
pub first_open_is : (rows : List Row) → First rows (first_open rows)
unfolding first_open
first_open_is = first_by_is (λ r. said (itself (not r.closed)) (λ h. false_out r.closed (T_not r.closed h)) (λ e. rw e tt)) before_order

-- the closed row that comes next after x
abbrev pub Following : Node → List Row → ℕ → Type 0
Following x = FirstBy (λ r. (r.closed ≡ true) × T (earlier x r.entry.node)) (λ r. r.entry.node) earlier

-- for the sheet's entries
pub next_closed_is : (x : Node) (rows : List Row) → Following x rows (next_closed x rows)
unfolding next_closed
next_closed_is x =
    first_by_is (λ r. together (said (itself r.closed) (true_out r.closed) (true_in r.closed)) (itself (earlier x r.entry.node))) earlier_order
