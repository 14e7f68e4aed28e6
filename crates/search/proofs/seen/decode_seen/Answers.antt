-- `seen::decode_seen` meets its contract: a refusal of the search is handed on, and the trace writes the verdict's message (Halting).
-- Assumes nothing.
use mathlib.Core.Path.{sym, ◌∙◌}
use Rattle.std.proofs.lemmas.Result.{err_from_is_err_and}
use Rattle.desk.specs.Desk.{told_by}
use Rattle.trellis.specs.Search.{trace}
use Rattle.blocks.proofs.Asked.{block_lawful, block_span}
use Rattle.search.specs.Work.{in_front}
use Rattle.search.proofs.Halting.{answer_traceable, answer_told}
use Rattle.search.proofs.seen.decode_seen.Goals as goal

pub returns-in_err-found : goal.returns-in_err-found
unfolding told_by
returns-in_err-found c =
    let p = err_from_is_err_and c.from_residual.result c.from_residual.ensures.1 in
    rw (p.1, p.2) (c.in_err-found.ensures c.args.message.now)

pub trace-requires-clause-traceable : goal.trace-requires-clause-traceable
trace-requires-clause-traceable c = rw c.top.ensures (answer_traceable (block_lawful c.args.block.now) c.in_ok-found.ensures)

pub returns : goal.returns
returns c =
    let b = c.args.block.now in
    let rows = c.search_seen.new.nodes.rows in
    answer_told (block_lawful b) c.in_ok-found.ensures c.args.message.now _
    (c.trace.ensures
    ∙ (λ z. in_front (sym (block_span b) z) (c.top.ensures z) (trace rows (c.top.ensures z) c.in_ok-found.field-0.row) c.args.message.now))
