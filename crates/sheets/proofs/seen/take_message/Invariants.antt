-- `seen::take_message` meets its contract: writing the bits that are left over the buffer as it is gives the whole message (the record
-- Filling). Assumes nothing.
use Rattle.lists.proofs.Writing.{Filling}
use Rattle.sheets.specs.Bytes.{sheet_read}
use Rattle.sheets.proofs.seen.take_message.Given as goal

abbrev pub invariant-loop-i : goal.invariant-loop-i
invariant-loop-i l = Filling l.initial.message (sheet_read l.length l.sheet).message 0 l.message l.i
