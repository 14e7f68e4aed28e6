-- `register::output_bit` meets its contract. What is left to count, with what was seen to be odd so far, is as odd as the whole; the
-- measure is what is left of the register. Assumes nothing.
use mathlib.Core.Path.{◌≡◌}
use Prim.Native.Nat.{◌+◌, ◌%◌, ◌≤◌}
use lib.Bits.{bit_and}
use lib.Count.{ones}
use Rattle.codes.proofs.register.output_bit.Given as goal

abbrev pub invariant-loop-left : goal.invariant-loop-left
invariant-loop-left l = ((l.odd + ones (bit_and l.left l.taps)) % 2 ≡ ones (bit_and l.register l.generator) % 2) × (l.odd ≤ 1)

abbrev pub decreases-loop-left : goal.decreases-loop-left
decreases-loop-left l = l.left
