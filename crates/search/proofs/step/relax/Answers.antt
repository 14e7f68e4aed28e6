-- `step::relax` meets its contract: what the row brings is the pure search's arrival, entered. Assumes nothing.
use mathlib.Core.Path.{◌≡◌, sym, ap, ◌∙◌, subst}
use Prim.Native.Nat.{◌<◌}
use native.Mathlib.Omega.{arith}
use Rattle.trellis.specs.Trellis.{allowed}
use Rattle.trellis.specs.Search.{Row, find_row, arrival, entered, relax}
use Rattle.store.specs.Memory.{row_of}
use Rattle.blocks.specs.Machines.{trellis_under}
use Rattle.search.specs.Work.{cap, Fitting, brought, Tries}
use Rattle.search.proofs.Fits.{safe_fitting}
use Rattle.search.proofs.step.relax.Goals as goal

pub arrival-brought-requires : goal.arrival-brought-requires
arrival-brought-requires c =
    let p = c.requires.steppable in record {
      fitting = subst (λ (r : Row). Fitting c.args.block.now r.entry) (sym c.row-from.ensures.row) (safe_fitting c.args.block.now (p.safe.each c.args.i p.within));
      small = c.row-from.ensures.small;
      within = omega (arith, p.roomy.most, p.roomy.lent.small, p.within);
      allows = subst (λ (r : Row). c.args.input < allowed (trellis_under c.args.block.now) r.entry.node.level) (sym c.row-from.ensures.row) c.requires.input_bound;
    }

pub returns : goal.returns
unfolding relax
returns c =
    let t = trellis_under c.args.block.now in
    let rows = c.args.nodes.now.rows in
    let e : row_of c.arrival-brought.result ≡ arrival t rows c.args.i c.args.input =
    c.arrival-brought.ensures.row ∙ ap (λ (r : Row). brought t r c.args.i c.args.input) c.row-from.ensures.row in
    subst (λ (a : Row). Tries c.args.nodes.now c.enter.new.nodes c.args.room c.enter.result (entered cap c.args.room rows a (find_row a.entry.node rows))) e
    c.enter.ensures
