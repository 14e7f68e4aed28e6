-- `register::output_bit` meets its contract. What is left to count, with what was seen to be odd so far, is as odd as the whole; the
-- measure is what is left of the register. Assumes nothing.
use native.Mathlib.Omega.{arith}
use Rattle.codes.proofs.Registers.{shared_step}
use Rattle.codes.proofs.register.output_bit.Goals as goal

pub loop-left-preserved : goal.loop-left-preserved
loop-left-preserved c = omega (arith, shared_step c.loop-left.left c.loop-left.taps)
