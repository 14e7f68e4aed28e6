-- Beside law 8: every step of the search keeps its rows safe (specs/Safe): so a bound on metrics and on reached nodes bounds rows, whatever
-- order they are expanded in. That the search is right is not here but in Between, Expand and Searched. Assumes nothing.
use mathlib.Core.Path.{◌≡◌, refl, sym, ap, ◌∙◌, subst}
use mathlib.Core.List.{List, [], ◌∷◌}
use mathlib.Core.Bool.{Bool, true, false}
use Prim.Native.Nat.{ℕ, zero, suc, ◌+◌, ◌≤◌, ◌<◌}
use native.Mathlib.Decide.{ℕ_discrete, dec_lt}
use native.Mathlib.Omega.{arith}
use lib.ListN.{length, length-set, length-append}
use Rattle.trellis.specs.Trellis.{Trellis, Node, top, allowed, ends, along}
use Rattle.trellis.specs.Verdict.{onto}
use Rattle.trellis.specs.Lawful.{start}
use Rattle.trellis.specs.Search.{Row, row_at, entry_at, node_at, started, gained, shut, closed, Tried, arrival, relax, onward, fan, expand}
use Rattle.trellis.specs.Safe.{SafeRow, Safe}
use Rattle.trellis.proofs.Paths.{ends_here, allowed_message, allowed_tail, allowed_none}
use Rattle.trellis.proofs.Step.{attains_onto}
use Rattle.trellis.proofs.Rows.{Changed, set_changed, added_changed}
use Rattle.trellis.proofs.Entered.{Entered, lowers, joins, leaves, adds, stops, entered_is}

-- ---- changes

-- a row among more rows
safe_more : {t : Trellis} {cap n m : ℕ} {r : Row} → n ≤ m → SafeRow t cap n r → SafeRow t cap m r
safe_more h s = record { attained = s.attained; parent = omega (arith, s.parent); input = s.input; count = s.count }

-- a safe row, the only one of its node
safe_change : {t : Trellis} {cap room : ℕ} {rows after : List Row} {k : ℕ} {r : Row}
    → Safe t cap room rows → Changed rows after k r → SafeRow t cap (length rows) r
    → ((i : ℕ) → i < length rows → node_at rows i ≡ r.entry.node → i ≡ k) → length after ≤ room → Safe t cap room after
safe_change {t} {cap} {room} {rows} {after} {k} {r} inv C row only h = record {
  held = h;
  each = (λ i l. each' i l (ℕ_discrete i k));
  once = (λ i l u v e. once' i l u v e (ℕ_discrete i k) (ℕ_discrete l k));
}
  where
    here' : (i : ℕ) → i ≡ k → row_at after i ≡ r
    here' i e = ap (row_at after) e ∙ C.here

    each' : (i : ℕ) → i < length after → Dec (i ≡ k) → SafeRow t cap (length after) (row_at after i)
    each' i l (yes e) = subst (SafeRow t cap (length after)) (sym (here' i e)) (safe_more C.longer row)
    each' i l (no d) = subst (SafeRow t cap (length after)) (sym (C.others i l d)) (safe_more C.longer (inv.each i (C.older i l d)))

    once' : (i l : ℕ) → i < length after → l < length after → node_at after i ≡ node_at after l → Dec (i ≡ k) → Dec (l ≡ k) → i ≡ l
    once' i l u v e (yes p) (yes q) = p ∙ sym q
    once' i l u v e (yes p) (no q) = p ∙ sym (only l (C.older l v q) (cc (e, here' i p, C.others l v q)))
    once' i l u v e (no p) (yes q) = only i (C.older i u p) (cc (e, here' l q, C.others i u p)) ∙ sym q
    once' i l u v e (no p) (no q) = inv.once i l (C.older i u p) (C.older l v q) (cc (e, C.others i u p, C.others l v q))

-- ---- the search's steps

-- the rows are safe still, none is dropped, and row i is as it was
pub record Grown (t : Trellis) (cap room i : ℕ) (rows after : List Row) : Type 0 where
  pub safe : Safe t cap room after
  pub longer : length rows ≤ length after
  pub stays : row_at after i ≡ row_at rows i

-- for a branch that changes nothing, for one branch after another, and for the rest after a try
grown_same : {t : Trellis} {cap room i : ℕ} {rows : List Row} → Safe t cap room rows → Grown t cap room i rows rows
grown_same inv = record { safe = inv; longer = omega arith; stays = refl }

grown_trans : {t : Trellis} {cap room i : ℕ} {rows mid after : List Row}
    → Grown t cap room i rows mid → Grown t cap room i mid after → Grown t cap room i rows after
grown_trans g h = record { safe = h.safe; longer = omega (arith, g.longer, h.longer); stays = h.stays ∙ g.stays }

onward_grown : {t : Trellis} {cap room i : ℕ} {first : List Row} (rows : List Row) (full : Bool) (next : List Row → Tried)
    → Grown t cap room i first rows → Grown t cap room i first (next rows).rows
    → Grown t cap room i first (onward (record { rows = rows; full = full }) next).rows
unfolding onward
onward_grown rows true next g h = g
onward_grown rows false next g h = h

-- the origin alone
pub safe_started : (t : Trellis) (cap room : ℕ) → 0 < t.inputs → 1 ≤ cap → 1 ≤ room → Safe t cap room started
unfolding ends along
safe_started t cap room w c h = record { held = omega arith; each = each'; once = (λ i k u v e. omega arith) }
  where
    each' : (i : ℕ) → i < 1 → SafeRow t cap 1 (row_at started i)
    each' zero u = record {
      attained = record { path = []; attains = record { there = ends_here start; paid = refl } };
      parent = omega arith;
      input = omega arith;
      count = omega arith;
    }
    each' (suc i) u = absurd (omega arith)

-- no level has more inputs than a step of the message
allowed_inputs : (t : Trellis) (l : ℕ) → 0 < t.inputs → allowed t l ≤ t.inputs
allowed_inputs t l w = go (dec_lt l t.span) (dec_lt l (top t))
  where
    go : Dec (l < t.span) → Dec (l < top t) → allowed t l ≤ t.inputs
    go (yes h) d = omega (arith, allowed_message t l h)
    go (no h) (yes k) = omega (arith, allowed_tail t l (omega arith) k)
    go (no h) (no k) = omega (arith, allowed_none t l (omega arith))

module _ {t : Trellis} {cap room : ℕ} (wide : 0 < t.inputs) where
  module _ {rows : List Row} (inv : Safe t cap room rows) {i : ℕ} (h : i < length rows) where
    -- closing a row
    pub safe_closed : Safe t cap room (closed rows i)
    safe_closed =
        let s = inv.each i h in
        safe_change inv (set_changed rows i (shut (row_at rows i)) h) (record { attained = s.attained; parent = s.parent; input = s.input; count = s.count })
        (λ k l e. inv.once k i l h e) (rw (length-set rows i (shut (row_at rows i))) inv.held)

    module _ {b : ℕ} (u : b < allowed t (node_at rows i).level) where
      -- what a branch brings is attained too: so the sum of cost and price is bounded before it is stored
      pub safe_arrival : SafeRow t cap (length rows) (arrival t rows i b)
      safe_arrival =
          let s = inv.each i h in
          record {
            attained = record { path = b ∷ s.attained.path; attains = attains_onto u s.attained.attains };
            parent = h;
            input = omega (arith, allowed_inputs t (node_at rows i).level wide);
            count = s.count;
          }

      -- a branch keeps the rows safe, drops none, and leaves the row that it comes from as it is
      pub safe_relax : Grown t cap room i rows (relax t cap room i b rows).rows
      unfolding relax
      safe_relax = go (entered_is cap room rows (arrival t rows i b))
        where
          a : Row
          a = arrival t rows i b

          -- the branch leads a level up, so not to row i
          apart : (k : ℕ) → node_at rows k ≡ (onto t (entry_at rows i) b).node → i ≡ k → ⊥
          apart k e q = omega (arith, ap (λ (x : Node). x.level) e, ap (λ (x : ℕ). (node_at rows x).level) q)

          grown : {after : List Row} {k : ℕ} {r : Row} → Changed rows after k r → SafeRow t cap (length rows) r → (i ≡ k → ⊥)
              → ((l : ℕ) → l < length rows → node_at rows l ≡ r.entry.node → l ≡ k) → length after ≤ room → Grown t cap room i rows after
          grown C row d only m = record { safe = safe_change inv C row only m; longer = C.longer; stays = C.others i (omega (arith, C.longer)) d }

          go : {r : Tried} → Entered cap room rows (arrival t rows i b) r → Grown t cap room i rows r.rows
          go (lowers k l e c) =
              grown (set_changed rows k a l) safe_arrival (apart k e) (λ m n q. inv.once m k n l (q ∙ sym e)) (rw (length-set rows k a) inv.held)
          go (joins k l e c) =
              let s = inv.each k l in
              let r : Row = gained cap a.count (row_at rows k) in
              grown (set_changed rows k r l) (record { attained = s.attained; parent = s.parent; input = s.input; count = omega arith })
              (apart k e) (λ m n q. inv.once m k n l q) (rw (length-set rows k r) inv.held)
          go (leaves k l e c) = grown_same inv
          go (adds none l) =
              grown (added_changed rows a) safe_arrival (λ q. omega arith) (λ m n q. absurd (none m n q)) (omega (arith, length-append rows (a ∷ [])))
          go (stops none l) = grown_same inv

  -- so do the branches from an input upwards
  pub safe_fan : (left b : ℕ) {rows : List Row} → Safe t cap room rows → {i : ℕ} → i < length rows → left + b ≤ allowed t (node_at rows i).level
      → Grown t cap room i rows (fan t cap room i left b rows).rows
  unfolding fan
  safe_fan zero b inv h u = grown_same inv
  safe_fan (suc left) b {rows = rows} inv {i = i} h u =
      let r : Tried = relax t cap room i b rows in
      let G : Grown t cap room i rows r.rows = safe_relax inv h (omega arith) in
      let e : allowed t (node_at r.rows i).level ≡ allowed t (node_at rows i).level =
      ap (λ (s : Row). allowed t s.entry.node.level) G.stays in
      onward_grown r.rows r.full (λ next. fan t cap room i left (suc b) next) G
      (grown_trans G (safe_fan left (suc b) G.safe (omega (arith, G.longer)) (omega arith)))

  -- and a whole step
  pub safe_expand : {rows : List Row} → Safe t cap room rows → {i : ℕ} → i < length rows → Safe t cap room (expand t cap room i rows).rows
  unfolding expand
  safe_expand {rows = rows} inv {i = i} h =
      let C = set_changed rows i (shut (row_at rows i)) h in
      let e : allowed t (node_at (closed rows i) i).level ≡ allowed t (node_at rows i).level =
      ap (λ (r : Row). allowed t r.entry.node.level) C.here in
      (safe_fan (allowed t (node_at rows i).level) 0 (safe_closed inv h) C.within (omega arith)).safe
