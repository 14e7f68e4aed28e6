-- `step::expand` meets its contract: the row is closed, and going on from the rows as they are finishes its fan. Assumes nothing.
use mathlib.Core.Path.{◌≡◌}
use Prim.Native.Nat.{ℕ}
use Rattle.trellis.specs.Trellis.{Trellis}
use Rattle.store.specs.Memory.{Shown}
use Rattle.blocks.specs.Machines.{trellis_under}
use Rattle.search.specs.Work.{cap, Roomy}
use Rattle.search.proofs.Fans.{Fanning}
use Rattle.search.proofs.step.expand.Given as goal

-- between two branches
pub record Going (t : Trellis) (room i inputs : ℕ) (first nodes : Shown) (input : ℕ) : Type 0 where
  pub roomy : Roomy nodes room
  pub kept : nodes.words ≡ first.words
  pub fanning : Fanning t cap room i inputs first.rows nodes.rows input

abbrev pub invariant-loop-input : goal.invariant-loop-input
invariant-loop-input l = Going (trellis_under l.block) l.room l.i l.inputs l.initial.nodes l.nodes l.input
