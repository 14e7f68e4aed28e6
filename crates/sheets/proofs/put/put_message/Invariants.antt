-- `put::put_message` meets its contract: writing the bytes that are left over the buffer as it is gives the whole message (the record
-- Filling). Assumes nothing.
use lib.ListN.{length}
use Rattle.lists.proofs.Writing.{Filling}
use Rattle.sheets.specs.Bytes.{message_place, message_bytes}
use Rattle.sheets.proofs.put.put_message.Given as goal

abbrev pub invariant-loop-j : goal.invariant-loop-j
invariant-loop-j l = Filling l.initial.out (message_bytes (length l.message) l.message) message_place l.out l.j
