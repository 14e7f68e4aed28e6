-- `entries::put_entries` meets its contract: what is left of the entries, put over the buffer as it is, finishes them (the record Entries).
-- Assumes nothing.
use mathlib.Core.Path.{ap, ◌∙◌}
use Prim.Native.Nat.{◌+◌, ◌*◌}
use native.Mathlib.Omega.{arith}
use lib.Seq.{sets}
use Rattle.trellis.specs.Search.{Row}
use Rattle.sheets.specs.Bytes.{entry_bytes}
use Rattle.writer.proofs.Putting.{entries_found, entries_here, entries_next, entries_done}
use Rattle.writer.proofs.entries.put_entries.Goals as goal

pub unwrap-k-requires : goal.unwrap-k-requires
unwrap-k-requires c = rw (entries_found c.loop-i.invariant c.loop-i-test.true)

pub row-here-requires : goal.row-here-requires
row-here-requires c = (entries_here c.loop-i.invariant c.loop-i-test.true c.unwrap-k.ensures).0

pub overflow_cast-here-in-loop-i-2 : goal.overflow_cast-here-in-loop-i-2
overflow_cast-here-in-loop-i-2 c =
    omega (arith, (entries_here c.loop-i.invariant c.loop-i-test.true c.unwrap-k.ensures).1, ap (λ (x : Row). x.entry.cost) c.row-here.ensures.row)

pub next_closed-next-requires : goal.next_closed-next-requires
next_closed-next-requires c = (entries_here c.loop-i.invariant c.loop-i-test.true c.unwrap-k.ensures).0

pub loop-i-preserved : goal.loop-i-preserved
loop-i-preserved c =
    entries_next c.loop-i.invariant c.loop-i-test.true c.unwrap-k.ensures
    (c.put_entry.ensures ∙ ap (λ (x : Row). sets c.loop-i.sheet (c.args.place + 8 * c.loop-i.i) (entry_bytes x.entry)) c.row-here.ensures.row)
    c.next_closed-next.ensures

pub returns : goal.returns
returns c = entries_done c.loop-i.invariant c.loop-i-test.false
