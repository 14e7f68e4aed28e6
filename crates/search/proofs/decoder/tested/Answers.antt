-- `decoder::tested` meets its contract: each test that fails decides a row of the definition, in its order. Assumes nothing.
use mathlib.Core.Path.{sym}
use Rattle.std.proofs.lemmas.Result.{err_from_is_err_and}
use Rattle.desk.specs.declared.Refusal.TheVariants.{BadCode}
use Rattle.codes.proofs.LawfulCodes.{unlawful, same_code}
use Rattle.search.specs.Work.{outside, missized}
use Rattle.search.proofs.decoder.tested.Goals as goal

pub returns-in_err-kept : goal.returns-in_err-kept
returns-in_err-kept c =
    let p = err_from_is_err_and c.from_residual.result c.from_residual.ensures.1 in
    let u = unlawful c.args.code c.new.result BadCode c.new.ensures c.in_err-kept.field-0.0 c.in_err-kept.ensures.value in
    rw (p.1, p.2, u.1) (outside u.0)

pub returns-then-not-sizes_fit : goal.returns-then-not-sizes_fit
returns-then-not-sizes_fit c =
    let kept = c.in_ok-kept.kept in
    let e = same_code c.args.code c.new.result BadCode c.new.ensures kept c.in_ok-kept.ensures.value in
    missized (rw e at kept.rules) (sym (rw e at c.if-not-sizes_fit.ensures))

pub returns : goal.returns
returns c =
    let kept = c.in_ok-kept.kept in
    let e = same_code c.args.code c.new.result BadCode c.new.ensures kept c.in_ok-kept.ensures.value in
    record { code = e; fits = sym (rw e at c.if-not-sizes_fit.ensures) }
