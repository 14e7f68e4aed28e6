-- What a front end makes of one reading, and which front ends are refused 6: document 01, 'From readings to symbols'. Believed, after
-- Rounding. `Ieee.sub`, `Ieee.mul`, `Ieee.le` and `Ieee.lt` are the kit's own `-`, `*`, `<=` and `<` of single-precision floats,
-- `finite` its test for a float that is neither a NaN nor an infinity, and `Ieee.to_bits` a float's 32 bits. Assumes nothing.
use Rattle.std.specs.Prelude.{Bool, cond, ◌&&◌, ℤ, pos, negsuc, Float}
use Rattle.std.specs.Float.Ieee as Ieee
use Rattle.std.specs.Float.{binary32}
use Rattle.std.specs.Float.Ieee.Scale.{finite}
use Rattle.front.specs.Rounding.{rounded}
use Rattle.front.specs.declared.FrontEnd.{FrontEnd}
use Rattle.front.specs.declared.FrontEnd.TheVariants.{Gain, Offset, Threshold}

-- +0.0, the zero of floats
abbrev pub plus_zero : Float
plus_zero = Ieee.of_bits binary32 0

-- 'Numbers not finite, or a gain not above zero, are refused 6.'
abbrev pub good_gain : Float → Bool
good_gain gain = finite gain && Ieee.lt plus_zero gain

unfoldable pub good : FrontEnd → Bool
good (Gain gain) = good_gain gain
good (Offset offset gain) = finite offset && good_gain gain
good (Threshold threshold) = finite threshold

-- 'The first forms reading × gain, the second (reading - offset) × gain, each operation rounded once. The product goes to the nearest
-- whole number'; 'The threshold gives 1 for a reading at or above it and -1 below.'
unfoldable pub symbol_of : FrontEnd → Float → ℤ
symbol_of (Gain gain) reading = rounded (Ieee.to_bits binary32 (Ieee.mul binary32 reading gain))
symbol_of (Offset offset gain) reading = rounded (Ieee.to_bits binary32 (Ieee.mul binary32 (Ieee.sub binary32 reading offset) gain))
symbol_of (Threshold threshold) reading = cond (Ieee.le threshold reading) (pos 1) (negsuc 0)
