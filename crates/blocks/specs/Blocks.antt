-- The trellis of a code, a message length L and a block: what a branch costs and where it leads. Document 01, 'Weight, metric,
-- node'. Believed, and read after Symbols, Codes and Trellis. How large blocks and metrics are is in Bounds. Assumes nothing.
use Rattle.std.specs.Prelude.{List, [], ◌∷◌, cond, ℕ, ◌+◌, ◌*◌, eqb, drop}
use Rattle.codes.specs.declared.table.Code.{Code}
use Rattle.codes.specs.Codes.{generators_of, register_of, next_state, branch_outputs}
use Rattle.trellis.specs.Trellis.{Trellis}
use Rattle.blocks.specs.Symbols.{Seen}

-- ---- distance

-- 'the sum of the weights where its output differs from the hard bit', place by place, as far as there are outputs and symbols
unfoldable pub distance : List ℕ → List Seen → ℕ
distance [] block = 0
distance (output ∷ outputs) [] = 0
distance (output ∷ outputs) (symbol ∷ block) = cond (eqb output symbol.hard_bit) 0 symbol.weight + distance outputs block

-- ---- the trellis

-- the cost of a branch: the distance of its n outputs from the n symbols of its level
unfoldable pub branch_cost : Code → List Seen → ℕ → ℕ → ℕ → ℕ
branch_cost c block level state b =
    distance (branch_outputs (generators_of c) (register_of c.memory b state)) (drop (level * c.outputs) block)

-- 'A node below level L has two successors; from level L on, only input 0 is allowed': L message steps of two inputs, m tail steps
abbrev pub trellis_of : Code → ℕ → List Seen → Trellis
trellis_of c l block = record {
  span = l;
  tail = c.memory;
  inputs = 2;
  next = (λ state b. next_state c.memory b state);
  price = branch_cost c block;
}
