-- `run::run` meets its contract: running on from the rows as they are finishes the search (the record Running). Assumes nothing.
use mathlib.Core.Path.{◌≡◌}
use Prim.Native.Nat.{ℕ, ◌-◌}
use Rattle.trellis.specs.Trellis.{Trellis}
use Rattle.store.specs.Memory.{Shown}
use Rattle.blocks.specs.Machines.{trellis_under}
use Rattle.search.specs.Work.{cap, Roomy}
use Rattle.search.proofs.Runs.{Running}
use Rattle.search.proofs.run.run.Given as goal

-- between two steps
pub record Going (t : Trellis) (room allowance : ℕ) (first nodes : Shown) (steps : ℕ) : Type 0 where
  pub roomy : Roomy nodes room
  pub kept : nodes.words ≡ first.words
  pub running : Running t cap room allowance nodes.rows steps

abbrev pub invariant-loop-first : goal.invariant-loop-first
invariant-loop-first l = Going (trellis_under l.block) l.room l.allowance l.initial.nodes l.nodes l.steps

abbrev pub decreases-loop-first : goal.decreases-loop-first
decreases-loop-first l = l.allowance - l.steps
