-- `writer::decode_sheet` meets its contract: a test that failed is told, and past them what the core decides, over the block's own trellis.
-- Assumes nothing.
use mathlib.Core.Path.{◌≡◌, sym, ap, ◌∙◌}
use mathlib.Core.Bool.{true}
use Rattle.std.proofs.lemmas.Result.{err_from_is_err_and}
use Rattle.desk.specs.Desk.{told_by}
use Rattle.codes.specs.Codes.{lawful}
use Rattle.blocks.specs.Symbols.{view}
use Rattle.blocks.specs.Blocks.{trellis_of}
use Rattle.search.specs.Decoding.{decode_desk}
use Rattle.search.proofs.Decodings.{failed_told}
use Rattle.writer.specs.Sheeting.{sheet_desk, sheeting}
use Rattle.writer.proofs.Sheetings.{sheet_refused}
use Rattle.writer.proofs.writer.decode_sheet.Goals as goal

pub returns-in_err-kept : goal.returns-in_err-kept
unfolding told_by decode_desk sheeting
returns-in_err-kept c =
    let p = err_from_is_err_and c.from_residual.result c.from_residual.ensures.1 in
    rw (p.1, p.2) (sheet_refused _ _ _ _ _ _ c.args.message.now c.args.sheet.now _ (failed_told c.args.message.now _ c.in_err-kept.ensures))

pub returns : goal.returns
unfolding sheeting
returns c =
    let passed = c.in_ok-kept.ensures in
    let kept = c.in_ok-kept.kept in
    let own : lawful c.args.code ≡ true = ap lawful (sym passed.code) ∙ kept.rules in
    c.decode_sheet_seen.ensures
    ∙ (λ z. sheet_desk true true true (c.see-block.ensures.trellis z) c.args.room c.args.allowance c.args.message.now c.args.sheet.now)
    ∙ (λ z. sheet_desk (sym own z) (sym passed.fits z) true (trellis_of (passed.code z) c.args.length (view c.args.symbols.now))
    c.args.room c.args.allowance c.args.message.now c.args.sheet.now)
