-- What the loop over a block takes for granted: `front` has tested it. Not believed: what `front` hands back is said in Fronting alone.
-- Assumes nothing.
use Rattle.std.specs.Prelude.{◌≡◌, List, ◌<◌, ◌≤◌, T, ℤ, length, Float}
use Rattle.front.specs.Symbols.{good}
use Rattle.front.specs.Fronting.{finite_run}
use Rattle.front.specs.declared.FrontEnd.{FrontEnd}

pub record Convertible (front_end : FrontEnd) (readings : List Float) (symbols : List ℤ) : Type 0 where
  -- the front end is not refused
  pub front_good : T (good front_end)
  -- every reading is finite
  pub all_finite : finite_run readings ≡ length readings
  -- there is a first reading
  pub some : 0 < length readings
  -- each reading has a place
  pub room : length readings ≤ length symbols
