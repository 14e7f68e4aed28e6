-- `run::run` meets its contract: running on from the rows as they are finishes the search (the record Running). Assumes nothing.
use mathlib.Core.Path.{◌≡◌, refl, sym, ap, ◌∙◌, subst}
use mathlib.Core.List.{List}
use mathlib.Core.Bool.{Bool, true, false}
use Prim.Native.Nat.{ℕ, ◌≤◌}
use native.Mathlib.Omega.{arith}
use lib.Dec.{T}
use lib.ListN.{length}
use Rattle.std.specs.Prelude.{Option, Some, is_ok, is_err, Result, Ok, Err}
use Rattle.std.proofs.Common.{rules}
use Rattle.std.proofs.lemmas.Result.{err_from_is_err_and}
use Rattle.trellis.specs.Trellis.{Trellis, node, same, top, terminal}
use Rattle.trellis.specs.Search.{Row, row_at, node_at, first_open, started, Ended, found, arrived, expand}
use Rattle.trellis.proofs.Run.{Arrived, after}
use Rattle.blocks.proofs.Asked.{block_lawful}
use Rattle.store.specs.Memory.{Shown, showing, found_at}
use Rattle.store.proofs.Found.{found_within, found_some}
use Rattle.blocks.specs.Machines.{trellis_under}
use Rattle.search.specs.Work.{cap, answer_of, Tries, Halts}
use Rattle.desk.specs.declared.Refusal.{Refusal}
use Rattle.desk.specs.declared.Refusal.TheVariants.{NoRoom}
use Rattle.search.specs.declared.run.Terminal.{Terminal}
use Rattle.search.specs.declared.step.Full.{Full}
use Rattle.search.proofs.Fits.{lent_on, tries_roomy}
use Rattle.search.proofs.Runs.{running_cast, running_start, running_open}
use Rattle.search.proofs.Runs.{running_found, running_spent, running_full, running_next}
use Rattle.search.proofs.run.run.Goals as goal

-- how the search ended is what the memory shows and the run answers
halts : (mid : Shown) {first nodes : Shown} {room : ℕ} {r : Result Terminal Refusal} {e : Ended} → mid.words ≡ first.words → nodes ≡ showing mid e.rows
    → length e.rows ≤ room → r ≡ answer_of e.outcome → {whole : Ended} → whole ≡ e → Halts first nodes room r whole
halts mid {first} {nodes} {room} {r} {e} k s m o w =
    subst (Halts first nodes room r) (sym w)
    (record { shows = s ∙ ap (λ (n : ℕ). record { words = n; rows = e.rows }) k; most = m; answer = o })

-- the first open row as it was found and read, and the test of it
record Turn (t : Trellis) (rows : List Row) (i : ℕ) (row : Row) (b : Bool) : Type 0 where
  place : first_open rows ≡ i
  read : row ≡ row_at rows (first_open rows)
  asked : b ≡ same (node_at rows (first_open rows)) (terminal t)

turn : (t : Trellis) (rows : List Row) {o : Option ℕ} {i : ℕ} {row : Row} {b : Bool} → o ≡ found_at rows (first_open rows) → o ≡ Some i
    → row ≡ row_at rows i → {last : ℕ} → last ≡ top t → b ≡ same row.entry.node (node last 0) → Turn t rows i row b
turn t rows e s read {last} l asked =
    let place = (found_some rows (first_open rows) (sym e ∙ s)).0 in
    let at : _ ≡ row_at rows (first_open rows) = read ∙ ap (row_at rows) (sym place) in
    record { place = place; read = at; asked = asked ∙ (λ z. same (at z).entry.node (node (l z) 0)) }

-- it is not the terminal's
off : {t : Trellis} {rows : List Row} {i : ℕ} {row : Row} {b : Bool} → Turn t rows i row b → b ≡ false → Arrived t rows → ⊥
off u e h = subst T (sym u.asked ∙ e) h

-- an expansion that answered nothing had no room
failed : (r : Result (Unit {0}) Full) → false ≡ is_ok r → is_err r ≡ true
failed (Ok x) h = absurd (cc)
failed (Err e) h = refl

-- and any other had
passed : (r : Result (Unit {0}) Full) → true ≡ is_ok r → is_err r ≡ false
passed (Ok x) h = refl
passed (Err e) h = absurd (cc)

pub loop-first-init : goal.loop-first-init
loop-first-init c =
    let rows : c.start.new.self.rows ≡ started = ap (λ (s : Shown). s.rows) c.start.ensures in
    record {
      roomy = record { most = rw rows c.requires.some; lent = lent_on (ap (λ (s : Shown). s.words) c.start.ensures) c.requires.lent };
      kept = refl;
      running = running_cast rows (running_start c.args.room c.args.allowance (block_lawful c.args.block.now) (omega arith) c.requires.some);
    }

pub unwrap-i-requires : goal.unwrap-i-requires
unwrap-i-requires c =
    let rows : List Row = c.loop-first.nodes.rows in
    rw (c.first_open.ensures, found_within rows (first_open rows) (running_open (block_lawful c.args.block.now) c.loop-first.invariant.running))

pub returns-then-is_terminal : goal.returns-then-is_terminal
returns-then-is_terminal c =
    let t : Trellis = trellis_under c.args.block.now in
    let rows : List Row = c.loop-first.nodes.rows in
    let g = c.loop-first.invariant in
    let u = turn t rows c.first_open.ensures c.unwrap-i.ensures c.row-first.ensures.row c.top-last.ensures c.is_terminal.ensures in
    halts c.loop-first.nodes {e = arrived rows (first_open rows) c.loop-first.steps} (g.kept ∙ ap (λ (s : Shown). s.words) c.start.ensures) refl g.roomy.most
    (λ z. answer_of (found (u.read z).entry.cost c.loop-first.steps (u.read z).count (sym u.place z)))
    (running_found (block_lawful c.args.block.now) g.running (subst T (sym (sym u.asked ∙ c.if-is_terminal.true)) tt))

pub returns-then-steps-allowance : goal.returns-then-steps-allowance
returns-then-steps-allowance c =
    let t : Trellis = trellis_under c.args.block.now in
    let rows : List Row = c.loop-first.nodes.rows in
    let g = c.loop-first.invariant in
    let u = turn t rows c.first_open.ensures c.unwrap-i.ensures c.row-first.ensures.row c.top-last.ensures c.is_terminal.ensures in
    halts c.loop-first.nodes (g.kept ∙ ap (λ (s : Shown). s.words) c.start.ensures) refl g.roomy.most refl
    (running_spent (block_lawful c.args.block.now) g.running (off u c.if-is_terminal.false) c.if-steps-allowance.true)

pub returns-in_err-map_err : goal.returns-in_err-map_err
returns-in_err-map_err c =
    let t : Trellis = trellis_under c.args.block.now in
    let rows : List Row = c.loop-first.nodes.rows in
    let g = c.loop-first.invariant in
    let u = turn t rows c.first_open.ensures c.unwrap-i.ensures c.row-first.ensures.row c.top-last.ensures c.is_terminal.ensures in
    let tried : Tries c.loop-first.nodes c.expand.new.nodes c.args.room c.expand.result (after t cap c.args.room rows) =
    subst (λ (i : ℕ). Tries c.loop-first.nodes c.expand.new.nodes c.args.room c.expand.result (expand t cap c.args.room i rows)) (sym u.place) c.expand.ensures in
    let refusal : c.in_err-map_err.field-0.0 ≡ NoRoom c.loop-first.steps = search rules in
    let p = err_from_is_err_and c.from_residual.result c.from_residual.ensures.1 in
    rw (p.1, p.2, refusal)
    (halts c.loop-first.nodes (g.kept ∙ ap (λ (s : Shown). s.words) c.start.ensures) tried.shows tried.most refl
    (running_full (block_lawful c.args.block.now) g.running (off u c.if-is_terminal.false) c.if-steps-allowance.false
    (sym tried.full ∙ failed c.expand.result c.in_err-map_err.ensures.variant)))

pub loop-first-preserved : goal.loop-first-preserved
loop-first-preserved c =
    let t : Trellis = trellis_under c.args.block.now in
    let rows : List Row = c.loop-first.nodes.rows in
    let g = c.loop-first.invariant in
    let u = turn t rows c.first_open.ensures c.unwrap-i.ensures c.row-first.ensures.row c.top-last.ensures c.is_terminal.ensures in
    let tried : Tries c.loop-first.nodes c.expand.new.nodes c.args.room c.expand.result (after t cap c.args.room rows) =
    subst (λ (i : ℕ). Tries c.loop-first.nodes c.expand.new.nodes c.args.room c.expand.result (expand t cap c.args.room i rows)) (sym u.place) c.expand.ensures in
    record {
      roomy = tries_roomy tried g.roomy.lent;
      kept = ap (λ (s : Shown). s.words) tried.shows ∙ g.kept;
      running =
          running_cast (ap (λ (s : Shown). s.rows) tried.shows)
          (running_next (block_lawful c.args.block.now) g.running (off u c.if-is_terminal.false) c.if-steps-allowance.false
          (sym tried.full ∙ passed c.expand.result c.in_ok-map_err.ensures.variant));
    }
