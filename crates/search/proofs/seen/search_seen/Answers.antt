-- `seen::search_seen` meets its contract: each way in which the run halted is settled as the verdict says (Halting). Assumes nothing.
use native.Mathlib.Omega.{arith}
use Rattle.std.proofs.lemmas.Result.{err_from_is_err_and}
use Rattle.search.proofs.Halting.{none_refused, halt_refused, halt_light, halt_tied, halt_answered}
use Rattle.search.proofs.seen.search_seen.Goals as goal

pub returns-then-room-eq0 : goal.returns-then-room-eq0
returns-then-room-eq0 c = none_refused c.args.block.now c.args.room c.args.allowance c.if-room-eq0.true

pub returns-in_err-metric : goal.returns-in_err-metric
returns-in_err-metric c =
    let p = err_from_is_err_and c.from_residual.result c.from_residual.ensures.1 in
    rw (p.1, p.2) (halt_refused c.args.block.now c.args.room c.args.allowance c.in_err-metric.ensures)

pub overflow_cast-metric : goal.overflow_cast-metric
overflow_cast-metric c =
    let light = halt_light c.args.block.now c.args.room c.args.allowance c.in_ok-metric.ensures in
    omega arith

pub returns-then-count-gt1 : goal.returns-then-count-gt1
returns-then-count-gt1 c = halt_tied c.args.block.now c.args.room c.args.allowance c.in_ok-metric.ensures (omega arith)

pub returns : goal.returns
returns c = halt_answered c.args.block.now c.args.room c.args.allowance c.in_ok-metric.ensures (omega arith)
