-- The scans of the rows, by the work that is left: upwards for a node's row, downwards for the row of least key. For each a record that
-- says how far the scan is, and its turns; for the second its start and its end too; then that the first open row and the closed row that
-- comes next have the least of keys. Assumes nothing.
use mathlib.Core.Path.{◌≡◌, sym, ap, ◌∙◌}
use mathlib.Core.List.{List, [], ◌∷◌}
use mathlib.Core.Bool.{Bool, true, false, not, cond, ◌&&◌, and-false}
use Prim.Native.Nat.{ℕ, suc, ◌+◌, ◌-◌, ◌*◌, ◌%◌, ◌^◌, ◌≤◌, ◌<◌}
use native.Mathlib.Numerals.{add-one}
use native.Mathlib.Omega.{arith}
use lib.Dec.{eqb, ltb}
use lib.ListN.{length, drop, drop_of_length-le, length-drop}
use lib.Seq.{drop-cons, get_or-drop}
use borrow.Author.Tests.{lt-ltb, le-ltb, eq-eqb, ne_eqb}
use Rattle.std.specs.Prelude.{Option, Some, None, MatchOption}
use Rattle.std.specs.Bool.{then_some}
use Rattle.std.proofs.lemmas.Option.{cond_some}
use Rattle.trellis.specs.Trellis.{Node, node}
use Rattle.trellis.specs.Verdict.{earlier, before}
use Rattle.trellis.specs.Search.{Row, no_row, row_at, find_row, first_by}
use Rattle.store.specs.Memory.{states, levels, nodes, entry_from, row_from, order_at, rest_at, rows_of, found_at}
use Rattle.store.specs.Scan.{Keyed, open_key, next_key}
use Rattle.store.proofs.Words.{before_words, earlier_words, same_words}
use Rattle.store.proofs.Rows.{row_in, length_rows_of, row_at_rows_of}
use Rattle.store.proofs.Found.{found_within, found_past}

-- ---- the rows from row i on

-- what a scan has still to see, or has seen
abbrev from : List ℕ → ℕ → ℕ → List Row
from work n i = drop i (rows_of work n)

module _ (work : List ℕ) (n i : ℕ) where
  -- row i and those behind it, or none
  from_next : i < n → from work n i ≡ row_in work i ∷ from work n (suc i)
  from_next h = rw (drop-cons (rows_of work n) i no_row (omega (arith, length_rows_of work n)), row_at_rows_of work n i h)

  -- behind the last row there is none
  from_end : n ≤ i → from work n i ≡ []
  from_end h = let k : length (rows_of work n) ≤ i = omega (arith, length_rows_of work n) in drop_of_length-le (rows_of work n) k

  -- and so many
  length_from : length (from work n i) ≡ n - i
  length_from = length-drop i (rows_of work n) ∙ ap (λ (k : ℕ). k - i) (length_rows_of work n)

-- ---- a node's row

-- i rows were passed, and none of them is the node's
pub record Finding (work : List ℕ) (n : ℕ) (x : Node) (i : ℕ) : Type 0 where
  pub within : i ≤ n
  pub left : i + find_row x (from work n i) ≡ find_row x (rows_of work n)

module _ {work : List ℕ} {n level state i : ℕ}
    (f : Finding work n (node level state) i) (more : i < n) (small : (level < levels) × (state < states)) where
  -- the scan ends at row i or goes on behind it, as its order word says
  finding_turn : find_row (node level state) (from work n i)
      ≡ cond (eqb (order_at work i % nodes) (level * states + state)) 0 (suc (find_row (node level state) (from work n (suc i))))
  unfolding find_row first_by row_from
  finding_turn = rw (from_next work n i more, same_words (order_at work i) level state small.0 small.1, and-false)

  -- row i is the node's
  pub finding_stop : order_at work i % nodes ≡ level * states + state
      → Some i ≡ found_at (rows_of work n) (find_row (node level state) (rows_of work n))
  finding_stop e =
      let here : find_row (node level state) (rows_of work n) ≡ i = omega (arith, f.left, rw (eq-eqb _ _ e) at finding_turn) in
      rw here (sym (found_within (rows_of work n) i (omega (arith, length_rows_of work n))))

  -- it is not
  pub finding_next : (order_at work i % nodes ≡ level * states + state → ⊥) → Finding work n (node level state) (i + 1)
  finding_next d = rw (add-one i) (record { within = omega arith; left = omega (arith, f.left, rw (ne_eqb _ _ d) at finding_turn) })

-- ---- the row of least key

-- an index below n, or none
abbrev pub below : ℕ → ℕ → Option ℕ
below n b = then_some (ltb b n) b

-- a row without a key is not eligible
passed_over : (b : Bool) (x : ℕ) → None ≡ cond b (Some x) None → b ≡ false
passed_over b x p = grind (arith, p)

module _ {key : ℕ → ℕ → Option ℕ → Type 0} {eligible : Row → Bool} {ahead : Row → Row → Bool} (keyed : Keyed key eligible ahead)
    (work : List ℕ) (n : ℕ) where
  -- what the scan computes
  abbrev f : List Row → ℕ
  f = first_by eligible ahead

  -- The rows from i on were seen. Either none of them has a key, or the one at best is the one that f finds, and lowest is its number.
  pub record Seen (i : ℕ) (best : Option ℕ) (lowest : ℕ) : Type 0 where
    pub within : i ≤ n
    pub found : MatchOption best
        ((length (from work n i) ≤ f (from work n i)) × (2 ^ 64 ≤ suc lowest))
        (λ b. (b ≡ i + f (from work n i)) × (b < n) × (keyed.number (order_at work b) ≡ lowest))

  -- for the loop's start: no row was seen
  pub seen_start : Seen n None (2 ^ 64 - 1)
  seen_start = record { within = omega arith; found = (rw (from_end work n n (omega arith)) (omega arith), omega arith) }

  module _ (i : ℕ) (more : i < n) where
    -- the rows behind row i
    abbrev behind : List Row
    behind = from work n (suc i)

    -- row i has no key
    module _ (p : key (order_at work i) (rest_at work i) None) where
      turn_passed : f (from work n i) ≡ suc (f behind)
      unfolding first_by
      turn_passed = rw (from_next work n i more, passed_over _ _ (keyed.told _ _ None p))

      pub seen_passed : (best : Option ℕ) (lowest : ℕ) → Seen (suc i) best lowest → Seen i best lowest
      seen_passed None lowest s = record {
        within = omega arith;
        found = (omega (arith, s.found.0, turn_passed, length_from work n i, length_from work n (suc i)), s.found.1);
      }
      seen_passed (Some b) lowest s = record {
        within = omega arith;
        found = (omega (arith, s.found.0, turn_passed), s.found.1, s.found.2);
      }

    -- it has one
    module _ (k : ℕ) (p : key (order_at work i) (rest_at work i) (Some k)) where
      own : (eligible (row_in work i) ≡ true) × (keyed.number (order_at work i) ≡ k)
      own = cond_some _ _ k (sym (keyed.told _ _ (Some k) p))

      -- and none behind it has
      turn_alone : length behind ≤ f behind → f (from work n i) ≡ 0
      unfolding first_by
      turn_alone h = rw (from_next work n i more, own.0, le-ltb (f behind) (length behind) h)

      -- it stands against the one at best
      turn_against : (b lowest : ℕ) → Seen (suc i) (Some b) lowest → f (from work n i) ≡ cond (ltb lowest k) (suc (f behind)) 0
      unfolding first_by
      turn_against b lowest s =
          let row : row_at behind (f behind) ≡ row_in work b =
          get_or-drop (suc i) (rows_of work n) (f behind) no_row ∙ ap (row_at (rows_of work n)) (sym s.found.0) ∙ row_at_rows_of work n b s.found.1 in
          let h : f behind < length behind = omega (arith, s.found.0, s.found.1, length_from work n (suc i)) in
          rw (
            from_next work n i more,
            own.0,
            lt-ltb (f behind) (length behind) h,
            row,
            keyed.lower (order_at work b) (rest_at work b) (order_at work i) (rest_at work i),
            s.found.2,
            own.1,
          )

      -- a higher one
      pub seen_higher : (best : Option ℕ) (lowest : ℕ) → Seen (suc i) best lowest → k < 2 ^ 64 → lowest < k → Seen i best lowest
      seen_higher None lowest s small l = absurd (omega (arith, s.found.1))
      seen_higher (Some b) lowest s small l = record {
        within = omega arith;
        found = (omega (arith, s.found.0, rw (lt-ltb lowest k l) at (turn_against b lowest s)), s.found.1, s.found.2);
      }

      -- a lower one: row i is the one now
      pub seen_lower : (best : Option ℕ) (lowest : ℕ) → Seen (suc i) best lowest → k ≤ lowest → Seen i (Some i) k
      seen_lower best lowest s l = record { within = omega arith; found = (omega (arith, here best s), more, own.1) }
        where
          here : (best : Option ℕ) → Seen (suc i) best lowest → f (from work n i) ≡ 0
          here None q = turn_alone q.found.0
          here (Some b) q = rw (le-ltb lowest k l) at (turn_against b lowest q)

  -- for the loop's end: all rows were seen
  pub seen_done : (best : Option ℕ) (lowest : ℕ) → Seen 0 best lowest → best ≡ found_at (rows_of work n) (f (rows_of work n))
  seen_done None lowest s = sym (found_past (rows_of work n) (f (rows_of work n)) s.found.0)
  seen_done (Some b) lowest s =
      let e : f (rows_of work n) ≡ b = omega (arith, s.found.0) in
      rw e (sym (found_within (rows_of work n) b (omega (arith, s.found.1, length_rows_of work n))))

-- ---- the keys of the two scans

-- the first open row has the least order word of the open ones
pub open_keyed : Keyed (λ order rest k. k ≡ open_key order rest) (λ r. not r.closed) (λ r s. before r.entry s.entry)
unfolding row_from
open_keyed = record { number = λ order. order; told = λ order rest k p. p; lower = λ order rest other bits. before_words order other }

-- the node that an order word holds
abbrev pub node_from : ℕ → Node
node_from order = (entry_from order).node

-- the closed row that comes next has the least number above the last
pub next_keyed : (word : ℕ) → Keyed (λ order rest k. k ≡ next_key (word % nodes) order rest)
    (λ r. r.closed && earlier (node_from word) r.entry.node) (λ r s. earlier r.entry.node s.entry.node)
unfolding row_from
next_keyed word = record {
  number = λ order. order % nodes;
  told = λ order rest k p. rw (earlier_words word order) p;
  lower = λ order rest other bits. earlier_words order other;
}
