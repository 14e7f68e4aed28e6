-- `seen::decode_sheet_seen` meets its contract: a refusal of the search is handed on; else the size is tested, and the message traced and
-- the sheet put from the rows of the search, the terminal's closed (Answers). Assumes nothing.
use mathlib.Core.Path.{refl, sym, ap, ◌∙◌}
use mathlib.Core.Bool.{true}
use native.Mathlib.Omega.{arith}
use lib.Seq.{sets}
use Rattle.desk.specs.Desk.{told_by}
use Rattle.blocks.specs.Machines.{trellis_under}
use Rattle.blocks.proofs.Asked.{block_lawful}
use Rattle.search.proofs.Answers.{desk_verdict}
use Rattle.search.proofs.Halting.{answer_traceable}
use Rattle.writer.proofs.Answers.{block_sized, answer_left, sizable}
use Rattle.writer.proofs.Answers.{answer_decoding, front_bits, front_puttable, sheet_size_lem, shown_listable, answer_sheet}
use Rattle.writer.proofs.Sheetings.{sheet_refused, sheet_short, sheet_done}
use Rattle.writer.proofs.seen.decode_sheet_seen.Goals as goal

pub returns-in_default : goal.returns-in_default
unfolding told_by
returns-in_default c =
    let t = trellis_under c.args.block.now in
    let refusal = rw c.unwrap_err.ensures at c.search_seen-outcome.ensures in
    sheet_refused true true true t c.args.room c.args.allowance c.args.message.now c.args.sheet.now c.unwrap_err.result
    (refusal c.args.message.now ∙ sym (desk_verdict true true true t c.args.room c.args.allowance c.args.message.now refl refl refl))

pub sheet_size-bytes-requires : goal.sheet_size-bytes-requires
sheet_size-bytes-requires c = let b = c.args.block.now in sizable (block_lawful b) (block_sized b c.requires.lent) c.in-Ok.ensures

pub overflow_cast-bytes : goal.overflow_cast-bytes
overflow_cast-bytes c =
    let b = c.args.block.now in
    let fit = sizable (block_lawful b) (block_sized b c.requires.lent) c.in-Ok.ensures in
    omega (arith, c.sheet_size-bytes.ensures, fit.0, fit.1)

pub returns-then-sheet-bytes : goal.returns-then-sheet-bytes
unfolding told_by
returns-then-sheet-bytes c =
    let b = c.args.block.now in
    let law = block_lawful b in
    let sized = block_sized b c.requires.lent in
    let message = c.args.message.now in
    sheet_short true true true (trellis_under b) c.args.room c.args.allowance message c.args.sheet.now (answer_decoding law sized c.in-Ok.ensures message refl refl)
    (c.sheet_size-bytes.ensures ∙ sheet_size_lem law sized c.in-Ok.ensures message refl refl) c.if-sheet-bytes.true

pub trace-requires-clause-traceable : goal.trace-requires-clause-traceable
trace-requires-clause-traceable c = rw c.top.ensures (answer_traceable (block_lawful c.args.block.now) c.in-Ok.ensures)

pub close-requires-clause-index : goal.close-requires-clause-index
close-requires-clause-index c = let b = c.args.block.now in (answer_left (block_lawful b) (block_sized b c.requires.lent) c.in-Ok.ensures).within

pub close-requires-clause-first : goal.close-requires-clause-first
close-requires-clause-first c = let b = c.args.block.now in (answer_left (block_lawful b) (block_sized b c.requires.lent) c.in-Ok.ensures).first

pub put_sheet-requires-clause-bits : goal.put_sheet-requires-clause-bits
put_sheet-requires-clause-bits c =
    let b = c.args.block.now in
    front_bits (block_lawful b) (block_sized b c.requires.lent) c.in-Ok.ensures c.args.message.now c.top.ensures c.trace.ensures

pub put_sheet-requires-clause-puttable : goal.put_sheet-requires-clause-puttable
put_sheet-requires-clause-puttable c =
    let b = c.args.block.now in
    front_puttable (block_lawful b) (block_sized b c.requires.lent) c.in-Ok.ensures c.args.message.now c.top.ensures c.trace.ensures
    c.args.sheet.now (omega (arith, c.if-sheet-bytes.false, c.sheet_size-bytes.ensures))

pub put_sheet-requires-clause-listable : goal.put_sheet-requires-clause-listable
put_sheet-requires-clause-listable c =
    let b = c.args.block.now in
    shown_listable (block_lawful b) (block_sized b c.requires.lent) c.in-Ok.ensures c.args.message.now c.top.ensures c.trace.ensures c.close.ensures

pub returns : goal.returns
returns c =
    let b = c.args.block.now in
    let t = trellis_under b in
    let law = block_lawful b in
    let sized = block_sized b c.requires.lent in
    let message = c.args.message.now in
    sheet_done true true true t c.args.room c.args.allowance message c.args.sheet.now (answer_decoding law sized c.in-Ok.ensures message c.top.ensures c.trace.ensures)
    (c.sheet_size-bytes.ensures ∙ sheet_size_lem law sized c.in-Ok.ensures message c.top.ensures c.trace.ensures) c.if-sheet-bytes.false
    (c.put_sheet.ensures ∙ ap (sets c.args.sheet.now 0) (answer_sheet law sized c.in-Ok.ensures message c.top.ensures c.trace.ensures c.close.ensures))
