-- `Nodes::add` meets its contract: a row written behind the last is a row more. Assumes nothing.
use Rattle.store.proofs.Rows.{length_rows_of, added_shows}
use Rattle.store.proofs.Nodes.add.Goals as goal

pub returns : goal.returns
returns c =
    rw (← c.self.view_is, c.put.ensures)
    (added_shows c.self.inside.words.now c.self.inside.count c.args.r (rw (← c.self.view_is, length_rows_of) at c.requires.room) c.requires.small)
