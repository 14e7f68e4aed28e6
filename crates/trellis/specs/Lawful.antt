-- Which paths are allowed and where they end, and what the laws of the verdict ask of a trellis: that every message's path ends in the
-- terminal. Not believed: the verdict is said without them; a code's trellis is shown to be lawful. Assumes nothing.
use Rattle.std.specs.Prelude.{◌≡◌, [], ◌∷◌, ℕ, ◌<◌, length}
use Rattle.trellis.specs.Trellis.{Trellis, Path, Node, top, allowed, ends}

-- every input of the path is allowed at its level
pub data Allowed (t : Trellis) : Path → Type 0 where
  start : Allowed t []
  step : {b : ℕ} {p : Path} → b < allowed t (length p) → Allowed t p → Allowed t (b ∷ p)

-- an allowed path that ends at a node
pub record Ends (t : Trellis) (x : Node) (p : Path) : Type 0 where
  pub allowed : Allowed t p
  pub level : length p ≡ x.level
  pub state : ends t p ≡ x.state

-- what the laws of the verdict ask
pub record Lawful (t : Trellis) : Type 0 where
  -- the tail brings every path to state 0
  pub closes : (p : Path) → Allowed t p → length p ≡ top t → ends t p ≡ 0
  -- a step of the message has an input, so there is a message
  pub wide : 0 < t.inputs
