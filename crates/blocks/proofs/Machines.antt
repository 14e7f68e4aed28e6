-- The trellis of a machine is that of the code it is made of. Assumes nothing.
use mathlib.Core.Path.{◌≡◌, ap, ◌∙◌}
use mathlib.Core.List.{List}
use Prim.Native.Nat.{ℕ, ◌*◌, ◌^◌}
use native.Mathlib.Omega.{arith}
use lib.ListN.{length}
use lib.Seq.{length-take-le}
use Rattle.codes.specs.declared.table.Code.{Code}
use Rattle.blocks.specs.Symbols.{Seen}
use Rattle.blocks.specs.Blocks.{branch_cost, trellis_of}
use Rattle.blocks.specs.Machines.{code_under, states_of, generators_at, cost_at, trellis_at}
use Rattle.blocks.specs.declared.block.Machine.{Machine}

module _ (m : Machine) where
  -- for every law of a code's trellis
  pub machine_trellis : (l : ℕ) (block : List Seen) → trellis_at m l block ≡ trellis_of (code_under m) l block
  unfolding trellis_at cost_at branch_cost
  machine_trellis l block =
      ap (λ (k : ℕ). record { span = l; tail = m.memory; inputs = 2 ^ k; next = (trellis_of (code_under m) l block).next; price = (trellis_of (code_under m) l block).price }) m.one

  -- for a machine that is made of a code: it has the code's trellis
  pub code_trellis : (c : Code) → code_under m ≡ c → (l : ℕ) (block : List Seen) → trellis_at m l block ≡ trellis_of c l block
  code_trellis c e l block = machine_trellis l block ∙ ap (λ (x : Code). trellis_of x l block) e

  -- and the code's states
  pub states_one : states_of m ≡ 2 ^ m.memory
  states_one = let e : m.inputs * m.memory ≡ m.memory = rw m.one (omega arith) in ap (λ (k : ℕ). 2 ^ k) e

  -- for the part of a table of four that counts
  pub generators_counted : length (generators_at m) ≡ m.outputs
  generators_counted = length-take-le m.outputs m.generators (omega (arith, m.four, m.outputs_few))
