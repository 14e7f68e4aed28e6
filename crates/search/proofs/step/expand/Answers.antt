-- `step::expand` meets its contract: the row is closed, and going on from the rows as they are finishes its fan. Assumes nothing.
use mathlib.Core.Path.{◌≡◌, refl, sym, ap, ◌∙◌, subst}
use mathlib.Core.List.{List}
use Prim.Native.Nat.{ℕ}
use native.Mathlib.Omega.{arith}
use lib.ListN.{length-set}
use Rattle.std.specs.Prelude.{Result}
use Rattle.std.proofs.lemmas.Result.{err_from_is_err_and}
use Rattle.trellis.specs.Trellis.{Trellis, allowed}
use Rattle.trellis.specs.Search.{Row, row_at, node_at, Tried, shut, closed, fan, expand}
use Rattle.trellis.proofs.Rows.{set_changed}
use Rattle.trellis.proofs.Safe.{safe_closed}
use Rattle.blocks.proofs.Asked.{block_lawful}
use Rattle.store.specs.Memory.{Shown}
use Rattle.blocks.specs.Machines.{trellis_under}
use Rattle.search.specs.Work.{cap, Tries}
use Rattle.search.specs.declared.step.Full.{Full}
use Rattle.search.proofs.Fits.{lent_on, tries_roomy, tries_from}
use Rattle.search.proofs.Fans.{Fanning, fanning_cast, fanning_start, fanning_full, fanning_next, fanning_done}
use Rattle.search.proofs.step.expand.Goals as goal

-- a try that finishes the fan over the closed row's memory is a try of the whole
based : (t : Trellis) {first mid nodes : Shown} {room : ℕ} (i inputs : ℕ) {r : Result (Unit {0}) Full} {p : Tried}
    → inputs ≡ allowed t (node_at first.rows i).level → {rows : List Row} → rows ≡ closed first.rows i → fan t cap room i inputs 0 rows ≡ p
    → mid.words ≡ first.words → Tries mid nodes room r p → Tries first nodes room r (expand t cap room i first.rows)
unfolding expand
based t {first} {mid} {nodes} {room} i inputs {r} allows same finished kept tried =
    subst (Tries first nodes room r) (sym finished ∙ (λ z. fan t cap room i (allows z) 0 (same z))) (tries_from kept tried)

pub loop-input-init : goal.loop-input-init
loop-input-init c =
    let t : Trellis = trellis_under c.args.block.now in
    let rows : List Row = c.args.nodes.now.rows in
    let closed_rows : c.close.new.self.rows ≡ closed rows c.args.i = ap (λ (s : Shown). s.rows) c.close.ensures in
    let kept : c.close.new.self.words ≡ c.args.nodes.now.words = ap (λ (s : Shown). s.words) c.close.ensures in
    let C = set_changed rows c.args.i (shut (row_at rows c.args.i)) c.requires.steppable.within in
    let allows : c.allowed-inputs.result ≡ allowed t (node_at (closed rows c.args.i) c.args.i).level =
    c.allowed-inputs.ensures ∙ ap (λ (r : Row). allowed t r.entry.node.level) c.row-from.ensures.row
    ∙ ap (λ (r : Row). allowed t r.entry.node.level) (sym C.here) in
    record {
      roomy = record {
        most = rw closed_rows (omega (arith, length-set rows c.args.i (shut (row_at rows c.args.i)), c.requires.steppable.roomy.most));
        lent = lent_on kept c.requires.steppable.roomy.lent;
      };
      kept = refl;
      fanning =
          subst (λ (l : List Row). Fanning t cap c.args.room c.args.i c.allowed-inputs.result l l 0) (sym closed_rows)
          (fanning_start (safe_closed (block_lawful c.args.block.now).wide c.requires.steppable.safe c.requires.steppable.within) C.within allows);
    }

pub relax-requires-clause-steppable : goal.relax-requires-clause-steppable
relax-requires-clause-steppable c = let f = c.loop-input.invariant.fanning in record { roomy = c.loop-input.invariant.roomy; within = f.there; safe = f.safe }

pub relax-requires-clause-input_bound : goal.relax-requires-clause-input_bound
relax-requires-clause-input_bound c = omega (arith, c.loop-input.invariant.fanning.allows)

pub returns-in_err-relax : goal.returns-in_err-relax
returns-in_err-relax c =
    let t : Trellis = trellis_under c.args.block.now in
    let allows : c.allowed-inputs.result ≡ allowed t (node_at c.args.nodes.now.rows c.args.i).level =
    c.allowed-inputs.ensures ∙ ap (λ (r : Row). allowed t r.entry.node.level) c.row-from.ensures.row in
    let g = c.loop-input.invariant in
    let tried = c.in_err-relax.ensures in
    let p = err_from_is_err_and c.from_residual.result c.from_residual.ensures.1 in
    rw (p.1, p.2)
    (based t {mid = c.loop-input.nodes} c.args.i c.allowed-inputs.result allows (ap (λ (s : Shown). s.rows) c.close.ensures)
    (fanning_full g.fanning c.loop-input-test.true (sym tried.full))
    (g.kept ∙ ap (λ (s : Shown). s.words) c.close.ensures) tried)

pub loop-input-preserved : goal.loop-input-preserved
loop-input-preserved c =
    let g = c.loop-input.invariant in
    let tried = c.in_ok-relax.ensures in
    record {
      roomy = tries_roomy tried g.roomy.lent;
      kept = ap (λ (s : Shown). s.words) tried.shows ∙ g.kept;
      fanning = fanning_cast (ap (λ (s : Shown). s.rows) tried.shows) (fanning_next g.fanning c.loop-input-test.true (block_lawful c.args.block.now).wide (sym tried.full));
    }

pub returns : goal.returns
returns c =
    let t : Trellis = trellis_under c.args.block.now in
    let allows : c.allowed-inputs.result ≡ allowed t (node_at c.args.nodes.now.rows c.args.i).level =
    c.allowed-inputs.ensures ∙ ap (λ (r : Row). allowed t r.entry.node.level) c.row-from.ensures.row in
    let g = c.loop-input.invariant in
    based t {mid = c.loop-input.nodes} c.args.i c.allowed-inputs.result allows (ap (λ (s : Shown). s.rows) c.close.ensures) (fanning_done g.fanning c.loop-input-test.false)
    (g.kept ∙ ap (λ (s : Shown). s.words) c.close.ensures)
    (record { shows = refl; most = g.roomy.most; full = refl })
