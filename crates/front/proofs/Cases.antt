-- Case 15 of document 01, from the definitions alone: 'Gain 2: readings 0.25, -0.25, 63, 63.25, 1000 give 1, -1, 126, 127, 127.' The
-- prover computes what `fronting` says, so that the definitions are seen to mean what the paper says. The program `front_cases` runs
-- many more. Assumes nothing.
use mathlib.Core.Path.{◌≡◌, refl}
use mathlib.Core.List.{List, [], ◌∷◌}
use Prim.Native.Nat.{ℕ}
use lib.IntN.{pos, negsuc}
use lib.Ieee as Ieee
use lib.Ieee.{Float, binary32}
use Rattle.front.specs.Rounding.{nearest, rounded}
use Rattle.front.specs.Symbols.{good, symbol_of}
use Rattle.front.specs.Reports.{updated_all, report_of}
use Rattle.front.specs.Fronting.{handed, finite_run, fronting}
use Rattle.front.specs.declared.FrontEnd.TheVariants.{Gain}

-- a float by its bits
abbrev bits : ℕ → Float
bits = Ieee.of_bits binary32

abbrev readings : List Float
readings = bits 0x3e80_0000 ∷ bits 0xbe80_0000 ∷ bits 0x427c_0000 ∷ bits 0x427d_0000 ∷ bits 0x447a_0000 ∷ []

-- the sixth place of the buffer stays as it is
pub case_15 : fronting (Gain (bits 0x4000_0000)) readings (pos 9 ∷ pos 9 ∷ pos 9 ∷ pos 9 ∷ pos 9 ∷ pos 9 ∷ []) ≡
    handed 0 5 0 (record { lowest = bits 0xbe80_0000; highest = bits 0x447a_0000 }) (pos 1 ∷ negsuc 0 ∷ pos 126 ∷ pos 127 ∷ pos 127 ∷ pos 9 ∷ [])
unfolding nearest rounded good symbol_of updated_all report_of finite_run fronting Ieee.mul Ieee.to_bits Ieee.of_bits Ieee.lt
case_15 = refl
