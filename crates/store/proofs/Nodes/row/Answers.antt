-- `Nodes::row` meets its contract: the words are taken apart as the definition does. Assumes nothing.
use Rattle.std.proofs.Common.{sym}
use Rattle.store.specs.Memory.{row_from}
use Rattle.store.proofs.Rows.{length_rows_of, row_at_rows_of}
use Rattle.store.proofs.Nodes.row.Goals as goal

pub returns-clause-row : goal.returns-clause-row
unfolding row_from
returns-clause-row c =
    rw (← c.self.view_is, c.get-order.ensures) (sym (row_at_rows_of c.self.inside.words.now c.self.inside.count c.args.i (rw (← c.self.view_is, length_rows_of) at c.requires)))
