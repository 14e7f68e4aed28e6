-- For law 8: what a change of the store's rows leaves alone. What its scans find is in Scan. Assumes nothing.
use mathlib.Core.Path.{◌≡◌}
use mathlib.Core.List.{List, [], ◌∷◌, ◌++◌}
use Prim.Native.Nat.{ℕ, ◌≤◌, ◌<◌}
use native.Mathlib.Omega.{arith}
use lib.ListN.{length, set, length-set, length-append, get_or-append}
use lib.Seq.{get_or-set_same, get_or-set_other, get_or-append_seam}
use Rattle.trellis.specs.Search.{Row, no_row, row_at}

-- ---- changes

-- the rows differ at one index only, where the row is now r
pub record Changed (rows after : List Row) (k : ℕ) (r : Row) : Type 0 where
  pub within : k < length after
  pub here : row_at after k ≡ r
  pub longer : length rows ≤ length after
  pub older : (i : ℕ) → i < length after → (i ≡ k → ⊥) → i < length rows
  pub others : (i : ℕ) → i < length after → (i ≡ k → ⊥) → row_at after i ≡ row_at rows i

-- a row replaced: lowered, joined and closed
pub set_changed : (rows : List Row) (k : ℕ) (r : Row) → k < length rows → Changed rows (set rows k r) k r
set_changed rows k r h = record {
  within = rw (length-set rows k r) h;
  here = get_or-set_same rows k r no_row h;
  longer = omega (arith, length-set rows k r);
  older = (λ i u d. omega (arith, length-set rows k r));
  others = (λ i u d. get_or-set_other rows k i r no_row d);
}

-- a row at the end
pub added_changed : (rows : List Row) (r : Row) → Changed rows (rows ++ (r ∷ [])) (length rows) r
added_changed rows r = record {
  within = omega (arith, length-append rows (r ∷ []));
  here = get_or-append_seam rows r [] no_row;
  longer = omega (arith, length-append rows (r ∷ []));
  older = (λ i u d. omega (arith, length-append rows (r ∷ [])));
  others = (λ i u d. get_or-append rows (r ∷ []) no_row i (omega (arith, length-append rows (r ∷ []))));
}
