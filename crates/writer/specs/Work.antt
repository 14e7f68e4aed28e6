-- What the functions of the writer ask of each other. Not believed: what it hands back is said in Sheeting alone. Assumes nothing.
use Rattle.std.specs.Prelude.{List, [], ◌∷◌, ℕ, zero, suc, ◌^◌, ◌<◌, length}
use Rattle.trellis.specs.Verdict.{Entry}
use Rattle.trellis.specs.Search.{Row, entry_at, node_at, cost_at, next_closed}
use Rattle.sheets.specs.Bytes.{Sheet}

-- so many closed rows' entries, row k's first, each next one by level, then state
unfoldable pub listed : List Row → ℕ → ℕ → List Entry
listed rows zero k = []
listed rows (suc n) k = entry_at rows k ∷ listed rows n (next_closed (node_at rows k) rows)

-- these rows are there, and their costs fit four bytes
unfoldable pub Listable : List Row → ℕ → ℕ → Type 0
Listable rows zero k = Unit {0}
Listable rows (suc n) k = (k < length rows) × (cost_at rows k < 2 ^ 32) × Listable rows n (next_closed (node_at rows k) rows)

-- a sheet by its parts
abbrev pub sheet_of : ℕ → List ℕ → List Entry → Sheet
sheet_of metric message entries = record { metric = metric; message = message; entries = entries }
