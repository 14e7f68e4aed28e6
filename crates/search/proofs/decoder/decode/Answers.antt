-- `decoder::decode` meets its contract: a test that failed is told, and past them what the core decides, over the block's own trellis.
-- Assumes nothing.
use mathlib.Core.Path.{◌∙◌}
use Rattle.std.proofs.lemmas.Result.{err_from_is_err_and}
use Rattle.desk.specs.Desk.{told_by}
use Rattle.trellis.specs.Verdict.{verdict}
use Rattle.blocks.specs.Symbols.{view}
use Rattle.blocks.specs.Blocks.{trellis_of}
use Rattle.search.specs.Decoding.{given, decode_desk, decoding}
use Rattle.search.proofs.Decodings.{failed_told, passed_told}
use Rattle.search.proofs.decoder.decode.Goals as goal

pub returns-in_err-kept : goal.returns-in_err-kept
unfolding told_by decode_desk decoding
returns-in_err-kept c =
    let p = err_from_is_err_and c.from_residual.result c.from_residual.ensures.1 in
    rw (p.1, p.2) (failed_told c.args.message.now _ c.in_err-kept.ensures)

pub returns : goal.returns
unfolding decode_desk decoding
returns c =
    let passed = c.in_ok-kept.ensures in
    let message = c.args.message.now in
    c.decode_seen.ensures
    ∙ (λ z. given (verdict (c.see-block.ensures.trellis z) c.args.room c.args.allowance) message)
    ∙ (λ z. given (verdict (trellis_of (passed.code z) c.args.length (view c.args.symbols.now)) c.args.room c.args.allowance) message)
    ∙ passed_told message _ passed
