-- For law 8: the trace of a row is a path to its node, and its metric is the row's cost: so whatever bounds paths and metrics bounds rows.
-- Assumes nothing.
use mathlib.Core.Path.{◌≡◌, refl, sym, ap, ◌∙◌, subst}
use mathlib.Core.List.{List, [], ◌∷◌}
use Prim.Native.Nat.{ℕ, zero, suc, ◌<◌}
use native.Mathlib.Omega.{arith}
use lib.ListN.{length}
use Rattle.trellis.specs.Trellis.{Trellis, ends, along}
use Rattle.trellis.specs.Verdict.{Entry}
use Rattle.trellis.specs.Lawful.{start}
use Rattle.trellis.specs.Search.{Row, row_at, entry_at, node_at, trace}
use Rattle.trellis.specs.Safe.{Attains, Attained}
use Rattle.trellis.proofs.Paths.{ends_here}
use Rattle.trellis.proofs.Step.{attains_onto}
use Rattle.trellis.proofs.Sharing.{Branch}
use Rattle.trellis.proofs.Table.{Link, Table}

-- as many inputs as levels
pub length_trace : (rows : List Row) (l i : ℕ) → length (trace rows l i) ≡ l
unfolding trace
length_trace rows zero i = refl
length_trace rows (suc l) i = ap suc (length_trace rows l (row_at rows i).parent)

module _ {t : Trellis} {cap j : ℕ} {taken : List Branch} {rows : List Row} (inv : Table t cap j taken rows) where
  -- the row before stands one level lower
  pub parent_level : (i : ℕ) → 0 < i → i < length rows → (node_at rows i).level ≡ suc (node_at rows (row_at rows i).parent).level
  parent_level i u h = ap (λ (e : Entry). e.node.level) (inv.linked i u h).comes

  -- the first row alone stands at level 0
  pub row_zero : (i : ℕ) → i < length rows → (node_at rows i).level ≡ 0 → i ≡ 0
  row_zero zero h e = refl
  row_zero (suc i) h e = absurd (omega (arith, parent_level (suc i) (omega arith) h))

  -- and all others above it
  pub row_above : (i l : ℕ) → (node_at rows i).level ≡ suc l → 0 < i
  row_above zero l e = absurd (omega (arith, ap (λ (u : Entry). u.node.level) inv.first))
  row_above (suc i) l e = omega arith

  -- the trace ends at the row's node, at the row's cost
  pub trace_attains : (l i : ℕ) → i < length rows → (node_at rows i).level ≡ l → Attains t (entry_at rows i) (trace rows l i)
  unfolding trace ends along
  trace_attains zero i h e =
      subst (λ (u : Entry). Attains t u []) (sym (ap (λ (k : ℕ). entry_at rows k) (row_zero i h e) ∙ inv.first))
      (record { there = ends_here start; paid = refl })
  trace_attains (suc l) i h e =
      let u : 0 < i = row_above i l e in
      let k : Link t rows (row_at rows i) = inv.linked i u h in
      let ih = trace_attains l (row_at rows i).parent k.within (omega (arith, parent_level i u h)) in
      subst (λ (u : Entry). Attains t u ((row_at rows i).input ∷ trace rows l (row_at rows i).parent)) (sym k.comes)
      (attains_onto k.fits ih)

  -- so a bound on the nodes that paths reach bounds the rows' levels and states, and a bound on metrics the rows' costs
  pub row_attained : (i : ℕ) → i < length rows → Attained t (entry_at rows i)
  row_attained i h = record { path = trace rows (node_at rows i).level i; attains = trace_attains (node_at rows i).level i h refl }
