-- `Machine::register` meets its contract: a state has at most 16 bits. Assumes nothing.
use native.Mathlib.Omega.{arith}
use lib.Pow.{pow_mono}
use Rattle.blocks.proofs.Machines.{states_one}
use Rattle.blocks.proofs.block.Machine.register.Goals as goal

pub overflow_cast-result : goal.overflow_cast-result
overflow_cast-result c = omega (arith, c.requires, states_one c.args.self, pow_mono c.args.self.memory_few)
