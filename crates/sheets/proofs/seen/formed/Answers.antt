-- `seen::formed` meets its contract: each test is a part of the form, in its order. Assumes nothing.
use mathlib.Core.Path.{sym, ◌∙◌}
use native.Mathlib.Omega.{arith}
use Rattle.sheets.proofs.Frame.{framed_out}
use Rattle.sheets.proofs.seen.formed.Goals as goal

pub read-count-requires : goal.read-count-requires
read-count-requires c =
    let b = c.args.block.now in
    omega (arith, (framed_out b.bits c.args.sheet.now (λ i. (c.type_inv.sheet i).fits) c.requires b.span (sym c.framed.ensures ∙ c.if-not-framed.false)).size)

pub entries_of-entries-requires : goal.entries_of-entries-requires
entries_of-entries-requires c =
    let b = c.args.block.now in
    record { span = b.span; size = (framed_out b.bits c.args.sheet.now (λ i. (c.type_inv.sheet i).fits) c.requires b.span (sym c.framed.ensures ∙ c.if-not-framed.false)).size }
