-- `entries::put_entries` meets its contract: what is left of the entries, put over the buffer as it is, finishes them (the record Entries).
-- Assumes nothing.
use Rattle.writer.proofs.Putting.{Entries}
use Rattle.writer.proofs.entries.put_entries.Given as goal

abbrev pub invariant-loop-i : goal.invariant-loop-i
invariant-loop-i l = Entries l.nodes.rows l.count l.place l.initial.sheet l.sheet l.next l.i
