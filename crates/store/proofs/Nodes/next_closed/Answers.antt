-- `Nodes::next_closed` meets its contract: the closed row of least number above that of row k comes next. Assumes nothing.
use Rattle.trellis.specs.Search.{next_closed}
use Rattle.store.specs.Memory.{row_from, order_at}
use Rattle.store.proofs.Rows.{length_rows_of, row_at_rows_of}
use Rattle.store.proofs.Scans.{next_keyed}
use Rattle.store.proofs.Nodes.next_closed.Goals as goal

pub returns : goal.returns
unfolding next_closed row_from
returns c =
    let work = c.self.inside.words.now in
    rw (← c.self.view_is, row_at_rows_of work c.self.inside.count c.args.k (rw (← c.self.view_is, length_rows_of) at c.requires))
    (c.least.ensures _ _ (rw c.get-order.ensures (next_keyed (order_at work c.args.k))))
