-- `Nodes::start` meets its contract: the origin's row is a row more than none. Assumes nothing.
use Rattle.std.proofs.Common.{arith}
use Rattle.store.specs.Memory.{rows_of}
use Rattle.store.proofs.Rows.{added_shows}
use Rattle.store.proofs.Nodes.start.Goals as goal

pub returns : goal.returns
unfolding rows_of
returns c =
    rw (← c.self.view_is, c.put.ensures)
    (added_shows c.self.inside.words.now 0 _ (rw (← c.self.view_is) at c.requires) (omega arith))
