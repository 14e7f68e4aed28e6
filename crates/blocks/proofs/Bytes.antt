-- A signed byte as the machine reads it. Assumes nothing.
use mathlib.Core.Path.{◌≡◌}
use lib.IntN.{ℤ}
use mir.Syntax.{w8}
use mir.Val.{SFits, to_z, of_z}
use mir.ValLaws.{to_z-of_z}

-- for each read of a byte
pub byte_back : (z : ℤ) → SFits w8 z → to_z w8 (of_z w8 z) ≡ z
byte_back z f = to_z-of_z w8 z f
