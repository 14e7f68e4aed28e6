-- `Nodes::first_open` meets its contract: the open row of least order word is the first open one. Assumes nothing.
use Rattle.trellis.specs.Search.{first_open}
use Rattle.store.proofs.Scans.{open_keyed}
use Rattle.store.proofs.Nodes.first_open.Goals as goal

pub returns : goal.returns
unfolding first_open
returns c = rw (← c.self.view_is) (c.least.ensures _ _ open_keyed)
