-- The path of a message, level by level, as the program walks it. Not believed: a condition between our own functions. Assumes nothing.
use Rattle.std.specs.Prelude.{◌≡◌, List, [], ◌∷◌, ℕ, zero, suc, ◌≤◌, get_or}
use Rattle.trellis.specs.Trellis.{Trellis, Path, ends, metric}
use Rattle.blocks.specs.declared.walk.Visit.{Visit}

-- the path of the first so many inputs; behind the message they are 0
unfoldable pub early : List ℕ → ℕ → Path
early message zero = []
early message (suc k) = get_or message k 0 ∷ early message k

-- where a path is at a level
abbrev pub visit_at : List Visit → ℕ → Visit
visit_at path j = get_or path j (record { state = 0; metric = 0 })

-- the states and the metrics of a message's path, from the origin to a level
pub record Walked (t : Trellis) (message : List ℕ) (level : ℕ) (path : List Visit) : Type 0 where
  pub state_at : (j : ℕ) → j ≤ level → (visit_at path j).state ≡ ends t (early message j)
  pub metric_at : (j : ℕ) → j ≤ level → (visit_at path j).metric ≡ metric t (early message j)
