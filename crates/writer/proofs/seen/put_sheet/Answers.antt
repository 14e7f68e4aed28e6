-- `seen::put_sheet` meets its contract: head, message and entries, one after another. Assumes nothing.
use mathlib.Core.Path.{◌≡◌, ◌∙◌}
use mathlib.Core.List.{List}
use native.Mathlib.Omega.{arith}
use lib.ListN.{length}
use Rattle.trellis.specs.Verdict.{Entry}
use Rattle.sheets.specs.Bytes.{Sheet, entries_place}
use Rattle.sheets.proofs.Putting.{put_sheet}
use Rattle.writer.specs.Work.{listed, sheet_of}
use Rattle.writer.proofs.Putting.{length_listed}
use Rattle.writer.proofs.seen.put_sheet.Goals as goal

pub returns : goal.returns
returns c =
    let l = length c.args.bits.now in
    let entries : List Entry = listed c.args.nodes.now.rows c.args.count 0 in
    let own : Sheet = sheet_of c.args.metric c.args.bits.now entries in
    let place : c.sheet_size.result ≡ entries_place l = c.sheet_size.ensures ∙ omega arith in
    rw (c.put_entries.ensures, c.put_message.ensures, c.put_head.ensures, place)
    (rw (length_listed c.args.nodes.now.rows c.args.count 0) at (put_sheet l own c.args.sheet.now))
