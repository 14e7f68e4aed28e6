-- `Block::allowed` meets its contract: its two tests are the definition's. Assumes nothing.
use borrow.Author.Tests.{lt-ltb, le-ltb}
use Rattle.trellis.specs.Trellis.{allowed}
use Rattle.blocks.specs.Machines.{trellis_at}
use Rattle.blocks.proofs.block.Block.allowed.Goals as goal

pub returns-then-level-self : goal.returns-then-level-self
unfolding allowed trellis_at
returns-then-level-self c = rw (lt-ltb _ _ c.if-level-self.true) c.inputs.ensures

pub returns-then-level-top : goal.returns-then-level-top
unfolding allowed trellis_at
returns-then-level-top c = rw (le-ltb _ _ c.if-level-self.false, lt-ltb _ _ (rw c.top.ensures at c.if-level-top.true))

pub returns-else-level-top : goal.returns-else-level-top
unfolding allowed trellis_at
returns-else-level-top c = rw (le-ltb _ _ c.if-level-self.false, le-ltb _ _ (rw c.top.ensures at c.if-level-top.false))
