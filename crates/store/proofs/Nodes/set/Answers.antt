-- `Nodes::set` meets its contract: of the rows shown the one written is set, and the memory keeps its length. Assumes nothing.
use Rattle.store.proofs.Rows.{length_rows_of, set_shows}
use Rattle.store.proofs.Nodes.set.Goals as goal

pub returns : goal.returns
returns c =
    rw (← c.self.view_is, c.put.ensures)
    (set_shows c.self.inside.words.now c.self.inside.count c.args.i c.args.r c.self.invariant (rw (← c.self.view_is, length_rows_of) at c.requires.index) c.requires.small)
