-- Safe rows: what a program that keeps rows in numbers of fixed width needs of them, whatever order they are expanded in. Every row's
-- cost is the metric of a path to its node, its parent is a row, its input one of the trellis, its count within the cap; no node has two
-- rows; there are no more rows than room. Not believed: a condition between our own functions. That every step of the search keeps this
-- is in proofs/Safe. Assumes nothing.
use Rattle.std.specs.Prelude.{◌≡◌, List, ℕ, ◌≤◌, ◌<◌, length}
use Rattle.trellis.specs.Trellis.{Trellis, Path, metric}
use Rattle.trellis.specs.Verdict.{Entry}
use Rattle.trellis.specs.Lawful.{Ends}
use Rattle.trellis.specs.Search.{Row, row_at, node_at}

-- the path ends at the entry's node and has just its cost
pub record Attains (t : Trellis) (e : Entry) (p : Path) : Type 0 where
  pub there : Ends t e.node p
  pub paid : metric t p ≡ e.cost

-- and some path is such a one
pub record Attained (t : Trellis) (e : Entry) : Type 0 where
  pub path : Path
  pub attains : Attains t e path

-- a row among n rows
pub record SafeRow (t : Trellis) (cap n : ℕ) (r : Row) : Type 0 where
  -- some path to the node has the row's cost
  pub attained : Attained t r.entry
  pub parent : r.parent < n
  pub input : r.input < t.inputs
  pub count : r.count ≤ cap

-- all rows
pub record Safe (t : Trellis) (cap room : ℕ) (rows : List Row) : Type 0 where
  -- there is room for them
  pub held : length rows ≤ room
  pub each : (i : ℕ) → i < length rows → SafeRow t cap (length rows) (row_at rows i)
  -- no node has two
  pub once : (i k : ℕ) → i < length rows → k < length rows → node_at rows i ≡ node_at rows k → i ≡ k
