-- `step::enter` meets its contract: each of the five ends of an arrival is the pure search's. Assumes nothing.
use mathlib.Core.Path.{◌≡◌, refl, sym, ap, subst}
use mathlib.Core.List.{List, [], ◌∷◌}
use Prim.Native.Nat.{ℕ, ◌≤◌, ◌<◌}
use native.Mathlib.Omega.{arith}
use lib.ListN.{length, length-append, length-set}
use Rattle.std.specs.Prelude.{Some, is_err, Result}
use Rattle.trellis.specs.Search.{Row, node_at, cost_at, Tried, find_row}
use Rattle.trellis.proofs.Scan.{find_row_is}
use Rattle.trellis.proofs.Entered.{entered_lowers, entered_joins, entered_leaves, entered_adds, entered_stops}
use Rattle.store.specs.Memory.{row_of, Shown, showing, found_at}
use Rattle.store.proofs.Found.{found_some, found_none}
use Rattle.search.specs.Work.{cap, Tries}
use Rattle.search.specs.declared.step.Full.{Full}
use Rattle.search.proofs.step.enter.Goals as goal

-- a node that was found has its row there
record Known (rows : List Row) (a : Row) (k : ℕ) : Type 0 where
  place : find_row a.entry.node rows ≡ k
  within : k < length rows
  here : a.entry.node ≡ node_at rows k

known : (rows : List Row) (a : Row) (k : ℕ) → Some k ≡ found_at rows (find_row a.entry.node rows) → Known rows a k
known rows a k e =
    let at = found_some rows (find_row a.entry.node rows) (sym e) in record {
      place = at.0;
      within = at.1;
      here = sym (rw at.0 at ((find_row_is a.entry.node rows).here (omega (arith, at.0, at.1))));
    }

-- what the pure search makes of the arrival is what the memory shows
tried : {first nodes : Shown} {room : ℕ} {r : Result (Unit {0}) Full} {whole p : Tried} → whole ≡ p → nodes ≡ showing first p.rows → length p.rows ≤ room
    → is_err r ≡ p.full → Tries first nodes room r whole
tried {first} {nodes} {room} {r} e s m f = subst (Tries first nodes room r) (sym e) (record { shows = s; most = m; full = f })

pub returns-then-len-room : goal.returns-then-len-room
returns-then-len-room c =
    let rows : List Row = c.args.nodes.now.rows in
    let a : Row = row_of c.args.brought in
    let past = found_none rows (find_row a.entry.node rows) (sym c.in_default.ensures) in
    tried (entered_adds cap c.args.room rows a (find_row a.entry.node rows) past (omega arith)) c.add.ensures (omega (arith, length-append rows (a ∷ []))) refl

pub returns-in_default : goal.returns-in_default
returns-in_default c =
    let rows : List Row = c.args.nodes.now.rows in
    let a : Row = row_of c.args.brought in
    let past = found_none rows (find_row a.entry.node rows) (sym c.in_default.ensures) in
    tried (entered_stops cap c.args.room rows a (find_row a.entry.node rows) past (omega arith)) refl c.requires.roomy.most refl

pub lower-requires-clause-same_node : goal.lower-requires-clause-same_node
lower-requires-clause-same_node c = (known c.args.nodes.now.rows (row_of c.args.brought) c.in-Some.k c.in-Some.ensures).here

pub returns-then-brought-known : goal.returns-then-brought-known
returns-then-brought-known c =
    let rows : List Row = c.args.nodes.now.rows in
    let a : Row = row_of c.args.brought in
    let at = known rows a c.in-Some.k c.in-Some.ensures in
    let cost_read : c.row-known.result.cost ≡ cost_at rows c.in-Some.k = ap (λ (r : Row). r.entry.cost) c.row-known.ensures.row in
    rw at.place
    (tried (entered_lowers cap c.args.room rows a c.in-Some.k at.within (omega arith)) c.lower.ensures
    (omega (arith, length-set rows c.in-Some.k a, c.requires.roomy.most)) refl)

pub returns-then-brought-known-2 : goal.returns-then-brought-known-2
returns-then-brought-known-2 c =
    let rows : List Row = c.args.nodes.now.rows in
    let a : Row = row_of c.args.brought in
    let at = known rows a c.in-Some.k c.in-Some.ensures in
    let cost_read : c.row-known.result.cost ≡ cost_at rows c.in-Some.k = ap (λ (r : Row). r.entry.cost) c.row-known.ensures.row in
    rw at.place
    (tried (entered_joins cap c.args.room rows a c.in-Some.k at.within (omega arith)) c.join.ensures
    (omega (arith, length-set {A = Row}, c.requires.roomy.most)) refl)

pub returns-else-brought-known-2 : goal.returns-else-brought-known-2
returns-else-brought-known-2 c =
    let rows : List Row = c.args.nodes.now.rows in
    let a : Row = row_of c.args.brought in
    let at = known rows a c.in-Some.k c.in-Some.ensures in
    let cost_read : c.row-known.result.cost ≡ cost_at rows c.in-Some.k = ap (λ (r : Row). r.entry.cost) c.row-known.ensures.row in
    rw at.place
    (tried (entered_leaves cap c.args.room rows a c.in-Some.k at.within (omega arith)) refl c.requires.roomy.most refl)
