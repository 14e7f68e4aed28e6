-- `Nodes::find` meets its contract: the rows passed are not the node's (the record Finding). Assumes nothing.
use Rattle.trellis.specs.Trellis.{node}
use Rattle.store.proofs.Scans.{Finding}
use Rattle.store.proofs.Nodes.find.Given as goal

abbrev pub invariant-loop-i : goal.invariant-loop-i
invariant-loop-i l = Finding l.self-inside.words.now l.self-inside.count (node l.level l.state) l.i
