-- `check::check` meets its contract: the code and the sizes passed, and the block that is seen has the code's trellis. Assumes nothing.
use mathlib.Core.Path.{sym, ap, ◌∙◌}
use Rattle.desk.specs.declared.Refusal.TheVariants.{BadCode}
use Rattle.trellis.specs.Trellis.{top}
use Rattle.codes.specs.declared.table.Code.{Code}
use Rattle.codes.proofs.LawfulCodes.{same_code}
use Rattle.sheets.specs.Bytes.{sheet_read}
use Rattle.sheets.specs.Checking.{formed, check_desk, checking}
use Rattle.sheets.proofs.check.check.Goals as goal

pub returns : goal.returns
unfolding checking
returns c =
    let kept = c.in_ok-kept.kept in
    let b = c.see-block.ensures in
    let bytes = c.args.sheet.now in
    let message = c.args.message.now in
    c.check_seen.ensures
    ∙ (λ z. check_desk (sym kept.rules z) ((sym c.if-not-sizes_fit.false ∙ c.sizes_fit.ensures) z) (formed (b.bits z) (top (b.trellis z)) (b.states z) bytes)
    (b.trellis z) (sheet_read (b.bits z) bytes) message)
    ∙ ap (λ (k : Code). checking k c.args.length c.args.symbols.now bytes message)
    (same_code c.args.code c.new.result BadCode c.new.ensures kept c.in_ok-kept.ensures.value)
