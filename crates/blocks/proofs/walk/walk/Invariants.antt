-- `walk::walk` meets its contract: what is written so far is the path so far (the record Walking). Assumes nothing.
use Rattle.blocks.specs.Bounds.{heaviest}
use Rattle.blocks.specs.Machines.{states_of, trellis_under}
use Rattle.blocks.proofs.Walks.{Walking}
use Rattle.blocks.proofs.walk.walk.Given as goal

abbrev pub invariant-loop-level : goal.invariant-loop-level
invariant-loop-level l =
    Walking (trellis_under l.block) l.message heaviest (states_of l.block.machine) l.path l.here l.level
