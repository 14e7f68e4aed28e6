-- The entries put into a buffer, from the rows that hold them: what is left of them, put behind the i that are put, finishes them (the
-- record Entries). Assumes nothing.
use mathlib.Core.Path.{◌≡◌, refl, sym, ap, ◌∙◌}
use mathlib.Core.List.{List, flat_map}
use Prim.Native.Nat.{ℕ, zero, suc, ◌+◌, ◌*◌, ◌^◌, ◌≤◌, ◌<◌}
use native.Mathlib.Omega.{arith}
use lib.ListN.{length}
use lib.Seq.{sets, length-sets}
use Rattle.std.specs.Prelude.{Option, Some}
use Rattle.lists.proofs.Writing.{sets_append}
use Rattle.trellis.specs.Search.{Row, entry_at, node_at, cost_at, next_closed}
use Rattle.store.specs.Memory.{found_at}
use Rattle.store.proofs.Found.{found_within}
use Rattle.sheets.specs.Bytes.{bytes_of, entry_bytes}
use Rattle.writer.specs.Work.{listed, Listable}

-- as many as were asked for
pub length_listed : (rows : List Row) (n k : ℕ) → length (listed rows n k) ≡ n
unfolding listed
length_listed rows zero k = refl
length_listed rows (suc n) k = ap suc (length_listed rows n (next_closed (node_at rows k) rows))

-- i entries are put, and of those that are left row k's is the next
pub record Entries (rows : List Row) (count place : ℕ) (first sheet : List ℕ) (next : Option ℕ) (i : ℕ) : Type 0 where
  pub k : ℕ
  pub left : ℕ
  pub counted : i + left ≡ count
  pub found : 0 < left → next ≡ Some k
  pub kept : length sheet ≡ length first
  pub there : Listable rows left k
  pub rest : sets sheet (place + 8 * i) (flat_map entry_bytes (listed rows left k)) ≡ sets first place (flat_map entry_bytes (listed rows count 0))

-- the first of those that are left is there, and its cost fits four bytes
listable_here : (rows : List Row) (k left : ℕ) → 0 < left → Listable rows left k → (k < length rows) × (cost_at rows k < 2 ^ 32)
unfolding Listable
listable_here rows k zero h there = absurd (omega (arith, h))
listable_here rows k (suc left) h there = (there.0, there.1)

module _ {rows : List Row} {count place : ℕ} {first sheet : List ℕ} {next : Option ℕ} {i : ℕ} (p : Entries rows count place first sheet next i)
    (h : i < count) where
  -- a row is the next
  pub entries_found : next ≡ Some p.k
  entries_found = p.found (omega (arith, p.counted, h))

  -- and no other is
  same_row : {k : ℕ} → next ≡ Some k → p.k ≡ k
  same_row {k} e = let one : Some p.k ≡ Some k = sym entries_found ∙ e in cc

  -- it is there, and its cost fits four bytes
  pub entries_here : {k : ℕ} → next ≡ Some k → (k < length rows) × (cost_at rows k < 2 ^ 32)
  entries_here {k} e = rw (← same_row e) (listable_here rows p.k p.left (omega (arith, p.counted, h)) p.there)

  -- for the next turn: one more is put
  pub entries_next : {k : ℕ} → next ≡ Some k → {after : List ℕ} → after ≡ sets sheet (place + 8 * i) (entry_bytes (entry_at rows k))
      → {then : Option ℕ} → then ≡ found_at rows (next_closed (node_at rows k) rows) → Entries rows count place first after then (i + 1)
  unfolding Listable listed flat_map bytes_of
  entries_next {k} e {after} put {then} q = go p.left p.counted p.there p.rest
    where
      go : (left : ℕ) → i + left ≡ count → Listable rows left p.k
          → sets sheet (place + 8 * i) (flat_map entry_bytes (listed rows left p.k)) ≡ sets first place (flat_map entry_bytes (listed rows count 0))
          → Entries rows count place first after then (i + 1)
      go zero s there rest = absurd (omega (arith, s, h))
      go (suc left) s there rest =
          let more : List ℕ = flat_map entry_bytes (listed rows left (next_closed (node_at rows k) rows)) in
          let past : place + 8 * (i + 1) ≡ place + 8 * i + 8 = omega arith in
          let others : Listable rows left (next_closed (node_at rows k) rows) = rw (← same_row e) there.2 in
          record {
            k = next_closed (node_at rows k) rows;
            left = left;
            counted = omega (arith, s);
            found = λ some. q ∙ found_within rows (next_closed (node_at rows k) rows) (listable_here rows _ left some others).0;
            kept = ap length put ∙ length-sets sheet (place + 8 * i) (entry_bytes (entry_at rows k)) ∙ p.kept;
            there = others;
            rest = rw (past, put) (sym (sets_append sheet (entry_bytes (entry_at rows k)) more (place + 8 * i)) ∙ rw (same_row e) at rest);
          }

-- for the loop's end: all are put
pub entries_done : {rows : List Row} {count place : ℕ} {first sheet : List ℕ} {next : Option ℕ} {i : ℕ} → Entries rows count place first sheet next i → count ≤ i
    → sheet ≡ sets first place (flat_map entry_bytes (listed rows count 0))
unfolding listed flat_map
entries_done {rows} {count} {place} {first} {sheet} {next} {i} p h = go p.left (omega (arith, p.counted, h)) p.rest
  where
    go : (left : ℕ) → left ≡ 0
        → sets sheet (place + 8 * i) (flat_map entry_bytes (listed rows left p.k)) ≡ sets first place (flat_map entry_bytes (listed rows count 0))
        → sheet ≡ sets first place (flat_map entry_bytes (listed rows count 0))
    go zero e rest = rest
    go (suc left) e rest = absurd (omega (arith, e))
