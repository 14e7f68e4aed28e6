-- The rows that the memory shows: how many, which, and what becomes of them when the words of a row are written: a row among them is
-- set, a row behind the last is added. Assumes nothing.
use mathlib.Core.Path.{◌≡◌, refl, sym, ap, ap₂, ◌∙◌}
use mathlib.Core.List.{List, [], ◌∷◌, ◌++◌}
use Prim.Native.Nat.{ℕ, zero, suc, ◌+◌, ◌*◌, ◌≤◌, ◌<◌}
use native.Mathlib.Decide.{ℕ_discrete}
use native.Mathlib.Numerals.{add-one}
use native.Mathlib.Omega.{arith}
use lib.ListN.{length, set, length-append, length-set, get_or-append}
use lib.Seq.{get_or_at, get_or-set_same, get_or-set_other, ext_get_or}
use Rattle.trellis.specs.Search.{Row, no_row, row_at}
use Rattle.store.specs.declared.Held.{Held}
use Rattle.store.specs.Limits.{words_per_node}
use Rattle.store.specs.Memory.{row_of, Small, order_word, rest_word, row_from, words_at, order_at, rest_at, rows_of, written, Shown, showing}
use Rattle.store.proofs.Words.{row_from_words}

-- ---- the memory as it is

-- the row that the words at an index hold
abbrev pub row_in : List ℕ → ℕ → Row
row_in work i = row_from (order_at work i) (rest_at work i)

-- so that an index below n is an index of the rows
pub length_rows_of : (work : List ℕ) (n : ℕ) → length (rows_of work n) ≡ n
unfolding rows_of
length_rows_of work zero = refl
length_rows_of work (suc n) = omega (arith, length-append (rows_of work n) (row_in work n ∷ []), length_rows_of work n)

-- for reading a row
pub row_at_rows_of : (work : List ℕ) (n i : ℕ) → i < n → row_at (rows_of work n) i ≡ row_in work i
unfolding rows_of
row_at_rows_of work zero i h = absurd (omega arith)
row_at_rows_of work (suc n) i h = go (ℕ_discrete i n) (λ k. row_at_rows_of work n i k)
  where
    go : Dec (i ≡ n) → (i < n → row_at (rows_of work n) i ≡ row_in work i) → row_at (rows_of work n ++ (row_in work n ∷ [])) i ≡ row_in work i
    go (yes e) ih = get_or_at (rows_of work n) (row_in work n) [] no_row i (length_rows_of work n ∙ sym e) ∙ ap (row_in work) (sym e)
    go (no d) ih = get_or-append (rows_of work n) (row_in work n ∷ []) no_row i (omega (arith, length_rows_of work n)) ∙ ih (omega arith)

-- the words of the rows alone decide
rows_of_same : (work other : List ℕ) (n : ℕ) → ((i : ℕ) → i < n → row_in work i ≡ row_in other i) → rows_of work n ≡ rows_of other n
unfolding rows_of
rows_of_same work other zero f = refl
rows_of_same work other (suc n) f =
    ap₂ (λ (rows : List Row) (r : Row). rows ++ (r ∷ [])) (rows_of_same work other n (λ i h. f i (omega arith))) (f n (omega arith))

-- ---- a row written

module _ (work : List ℕ) (i : ℕ) (r : Held) where
  -- the memory with the order word alone written
  abbrev half : List ℕ
  half = set work (words_at i) (order_word r)

  -- the length stays
  pub length_written : length (written work i r) ≡ length work
  length_written = simp length-set

  -- the row is the one written
  written_here : words_per_node * (i + 1) ≤ length work → Small r → row_in (written work i r) i ≡ row_of r
  written_here room s =
      ap₂ row_from
      (get_or-set_other half (words_at i + 1) (words_at i) (rest_word r) 0 (omega arith) ∙ get_or-set_same work (words_at i) (order_word r) 0 (omega arith))
      (get_or-set_same half (words_at i + 1) (rest_word r) 0 (omega (arith, length-set work (words_at i) (order_word r))))
      ∙ row_from_words r s

  -- and no other changes
  written_others : (k : ℕ) → (k ≡ i → ⊥) → row_in (written work i r) k ≡ row_in work k
  written_others k d =
      ap₂ row_from
      (get_or-set_other half (words_at i + 1) (words_at k) (rest_word r) 0 (omega arith)
      ∙ get_or-set_other work (words_at i) (words_at k) (order_word r) 0 (omega arith))
      (get_or-set_other half (words_at i + 1) (words_at k + 1) (rest_word r) 0 (omega arith)
      ∙ get_or-set_other work (words_at i) (words_at k + 1) (order_word r) 0 (omega arith))

-- what a caller sees, by its parts
abbrev shown_as : ℕ → List Row → Shown
shown_as words rows = record { words = words; rows = rows }

-- what a caller sees of the memory with so many rows
abbrev pub shown : List ℕ → ℕ → Shown
shown work n = shown_as (length work) (rows_of work n)

-- for a change of row i
pub set_shows : (work : List ℕ) (n i : ℕ) (r : Held) → words_per_node * n ≤ length work → i < n → Small r
    → shown (written work i r) n ≡ showing (shown work n) (set (rows_of work n) i (row_of r))
set_shows work n i r room h small =
    ap₂ shown_as
    (length_written work i r)
    (ext_get_or no_row (rows_of (written work i r) n) (set (rows_of work n) i (row_of r))
    (length_rows_of (written work i r) n ∙ sym (length-set (rows_of work n) i (row_of r) ∙ length_rows_of work n))
    (λ k l. at k (omega (arith, length_rows_of (written work i r) n)) (ℕ_discrete k i)))
  where
    at : (k : ℕ) → k < n → Dec (k ≡ i) → row_at (rows_of (written work i r) n) k ≡ row_at (set (rows_of work n) i (row_of r)) k
    at k l (yes q) =
        rw q
        (row_at_rows_of (written work i r) n i h
        ∙ written_here work i r (omega arith) small
        ∙ sym (get_or-set_same (rows_of work n) i (row_of r) no_row (omega (arith, length_rows_of work n))))
    at k l (no d) =
        row_at_rows_of (written work i r) n k l
        ∙ written_others work i r k d
        ∙ sym (get_or-set_other (rows_of work n) i k (row_of r) no_row d ∙ row_at_rows_of work n k l)

-- for a row more
pub added_shows : (work : List ℕ) (n : ℕ) (r : Held) → words_per_node * (n + 1) ≤ length work → Small r
    → shown (written work n r) (n + 1) ≡ showing (shown work n) (rows_of work n ++ (row_of r ∷ []))
unfolding rows_of
added_shows work n r room small =
    rw (add-one n)
    (ap₂ shown_as
    (length_written work n r)
    (ap₂ (λ (rows : List Row) (x : Row). rows ++ (x ∷ []))
    (rows_of_same (written work n r) work n (λ i h. written_others work n r i (omega arith)))
    (written_here work n r room small)))
