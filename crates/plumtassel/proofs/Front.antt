-- For a form that there is none of: the gain of zero that stands for it is refused. Assumes nothing.
use mathlib.Core.Path.{◌≡◌, refl}
use mathlib.Core.Bool.{false}
use lib.Ieee as Ieee
use Rattle.front.specs.Symbols.{plus_zero, good}
use Rattle.front.specs.declared.FrontEnd.TheVariants.{Gain}

pub zero_gain : good (Gain plus_zero) ≡ false
unfolding good Ieee.of_bits Ieee.lt
zero_gain = refl
