-- The trellis of a machine and a block as it was seen, as the program goes along it. Not believed: that it is the trellis of the code and
-- the block is shown in proofs/Machines. Only this crate opens it: search and check go by the laws of proofs/Asked. Assumes nothing.
use Rattle.std.specs.Prelude.{List, ℕ, ◌*◌, ◌^◌, drop, take}
use Rattle.codes.specs.declared.table.Code.{Code}
use Rattle.codes.specs.Codes.{register_of, next_state, branch_outputs}
use Rattle.trellis.specs.Trellis.{Trellis}
use Rattle.blocks.specs.Symbols.{Seen}
use Rattle.blocks.specs.Blocks.{distance}
use Rattle.blocks.specs.Packed.{seen_in}
use Rattle.blocks.specs.declared.block.Machine.{Machine}
use Rattle.blocks.specs.declared.block.Block.{Block}

-- the code that a machine is made of
abbrev pub code_under : Machine → Code
code_under m = record { outputs = m.outputs; memory = m.memory; generators = m.generators }

-- how many states there are, and how many inputs a step of the message has
abbrev pub states_of : Machine → ℕ
states_of m = 2 ^ (m.inputs * m.memory)

abbrev pub inputs_of : Machine → ℕ
inputs_of m = 2 ^ m.inputs

-- the generators that count
abbrev pub generators_at : Machine → List ℕ
generators_at m = take m.outputs m.generators

-- the cost of a branch
unfoldable pub cost_at : Machine → List Seen → ℕ → ℕ → ℕ → ℕ
cost_at m block level state b =
    distance (branch_outputs (generators_at m) (register_of m.memory b state)) (drop (level * m.outputs) block)

-- the trellis of a machine, a length and what was seen
unfoldable pub trellis_at : Machine → ℕ → List Seen → Trellis
trellis_at m l block = record {
  span = l;
  tail = m.memory;
  inputs = inputs_of m;
  next = (λ state b. next_state m.memory b state);
  price = cost_at m block;
}

-- that of a block
abbrev pub trellis_under : Block → Trellis
trellis_under b = trellis_at b.machine b.bits (seen_in b.seen.now)
