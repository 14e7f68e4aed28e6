-- What a scan for the row of least key needs to know of the key. Not believed. Assumes nothing.
use Rattle.std.specs.Prelude.{◌≡◌, Bool, cond, not, ◌&&◌, ℕ, ◌%◌, eqb, ltb, Option, Some, None}
use Rattle.trellis.specs.Search.{Row}
use Rattle.store.specs.Memory.{nodes, count_place, row_from}

-- The key of a row goes by its words: a number that the order word holds if the row is eligible, or none. A row stands ahead of another if
-- its number is lower.
pub record Keyed (key : ℕ → ℕ → Option ℕ → Type 0) (eligible : Row → Bool) (ahead : Row → Row → Bool) : Type 0 where
  pub number : ℕ → ℕ
  pub told : (order rest : ℕ) (k : Option ℕ) → key order rest k → k ≡ cond (eligible (row_from order rest)) (Some (number order)) None
  pub lower : (order rest other bits : ℕ) → ahead (row_from order rest) (row_from other bits) ≡ ltb (number order) (number other)

-- The keys of the two scans. An open row goes by its order word.
abbrev pub open_key : (order rest : ℕ) → Option ℕ
open_key order rest = cond (not (eqb (rest % count_place) 1)) (Some order) None

-- a closed row goes by its node's number, if that is above the last
abbrev pub next_key : (last order rest : ℕ) → Option ℕ
next_key last order rest = cond (eqb (rest % count_place) 1 && ltb last (order % nodes)) (Some (order % nodes)) None
