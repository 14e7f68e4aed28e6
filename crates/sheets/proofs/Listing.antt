-- The entries as their bytes say them: how many, each at its place, in the order of their nodes, and as a sheet says them. Assumes
-- nothing.
use mathlib.Core.Path.{◌≡◌, refl, sym, ap, ap₂, ◌∙◌}
use mathlib.Core.List.{List, [], ◌∷◌}
use mathlib.Core.Bool.{Bool, false, ◌&&◌, and-false}
use Prim.Native.Nat.{ℕ, zero, suc, ◌+◌, ◌*◌, ◌/◌, ◌-◌, ◌≤◌, ◌<◌}
use native.Mathlib.Omega.{arith}
use lib.Dec.{T}
use lib.ListN.{length, get_or, take, drop, length-drop}
use lib.Seq.{take_all, get_or-take}
use Rattle.std.specs.List.{list_all}
use Rattle.std.specs.Simd.{first_chunks}
use Rattle.lists.specs.Lists.{all}
use Rattle.lists.proofs.Membership.{here, nil_out, every_cons}
use Rattle.lists.proofs.Sorted.{Sorted}
use Rattle.lists.proofs.Places.{get_or_within}
use Rattle.lists.proofs.Decides.{Decides, said, together, itself}
use Rattle.trellis.specs.Verdict.{Entry, entry}
use Rattle.trellis.proofs.Order.{earlier_order}
use Rattle.trellis.proofs.Honest.{lower}
use Rattle.trellis.proofs.Listing.{no_entry}
use Rattle.sheets.specs.Bytes.{series, number_at, count_place, entries_place, entry_at, sheet_read}
use Rattle.sheets.specs.Checking.{rising}
use Rattle.sheets.specs.Work.{Counted, entries_in}
use Rattle.sheets.proofs.Series.{series_same}
use Rattle.sheets.proofs.Numbers.{number_at_drop}

-- ---- places

-- an entry for each eight bytes
pub length_entries_in : (chunks : List (List ℕ)) → length (entries_in chunks) ≡ length chunks
unfolding entries_in
length_entries_in [] = refl
length_entries_in (b ∷ chunks) = ap suc (length_entries_in chunks)

-- each at its place
pub entries_in_at : (chunks : List (List ℕ)) (i : ℕ) → get_or (entries_in chunks) i no_entry ≡ entry_at (get_or chunks i []) 0
unfolding entries_in number_at
entries_in_at [] i = refl
entries_in_at (b ∷ chunks) zero = refl
entries_in_at (b ∷ chunks) (suc i) = entries_in_at chunks i

-- the same, whatever is read past the end
pub entries_in_any : (chunks : List (List ℕ)) (i : ℕ) (d : List ℕ) → i < length chunks → get_or (entries_in chunks) i no_entry ≡ entry_at (get_or chunks i d) 0
entries_in_any chunks i d h = entries_in_at chunks i ∙ ap (λ (b : List ℕ). entry_at b 0) (get_or_within chunks i [] d h)

-- a test of all of them
pub all_listed : (p : Entry → Bool) (chunks : List (List ℕ)) → list_all (λ b. p (entry_at b 0)) chunks ≡ all p (entries_in chunks)
unfolding entries_in all
all_listed p [] = refl
all_listed p (b ∷ chunks) = ap (λ (t : Bool). p (entry_at b 0) && t) (all_listed p chunks)

-- ---- order

-- rising is sorted
pub rising_test : (es : List Entry) → Decides (rising es) (Sorted lower es)
unfolding rising
rising_test [] = record { out = (λ h. tt); into = (λ h. tt) }
rising_test (e ∷ []) = record { out = (λ h. (λ a m. absurd (nil_out m), tt)); into = (λ h. tt) }
rising_test (e ∷ f ∷ es) =
    said (together (itself (lower e f)) (rising_test (f ∷ es)))
    (λ h. (every_cons (λ y. T (lower e y)) h.0 (λ a m. earlier_order.trans e.node f.node a.node h.0 (h.1.0 a m)), h.1))
    (λ h. (h.0 f (here refl), h.1))

-- two neighbours that are not in order
pub rising_not : (es : List Entry) (d : Entry) (k : ℕ) → suc k < length es → lower (get_or es k d) (get_or es (suc k) d) ≡ false → rising es ≡ false
unfolding rising
rising_not [] d k h e = absurd (omega arith)
rising_not (a ∷ []) d k h e = absurd (omega arith)
rising_not (a ∷ b ∷ es) d zero h e = rw e
rising_not (a ∷ b ∷ es) d (suc k) h e = rw (rising_not (b ∷ es) d k (omega arith) e) (and-false (lower a b))

-- ---- the entries of a sheet

-- a number within the first bytes
number_at_take : (width at k : ℕ) (l : List ℕ) → at + width ≤ k → number_at width at (take k l) ≡ number_at width at l
unfolding number_at
number_at_take zero at k l h = refl
number_at_take (suc width) at k l h =
    ap₂ (λ (x y : ℕ). x + 256 * y) (get_or-take k l at 0 (omega arith)) (number_at_take width (suc at) k l (omega arith))

-- an entry in a part of the bytes
entry_at_drop : (k at : ℕ) (l : List ℕ) → entry_at (drop k l) at ≡ entry_at l (k + at)
entry_at_drop k at l =
    let e : k + (at + 4) ≡ k + at + 4 = omega arith in
    let f : k + (at + 2) ≡ k + at + 2 = omega arith in
    λ z. entry
    ((sym (number_at_drop 4 (at + 4) k l) ∙ ap (λ (j : ℕ). number_at 4 j l) e) z)
    (sym (number_at_drop 2 at k l) z)
    ((sym (number_at_drop 2 (at + 2) k l) ∙ ap (λ (j : ℕ). number_at 2 j l) f) z)

-- cut into eights, the bytes say the entries one after another
chunks_series : (n : ℕ) (l : List ℕ) → entries_in (first_chunks 8 n l) ≡ series n (λ i. entry_at l (8 * i))
unfolding entries_in series
chunks_series zero l = refl
chunks_series (suc n) l =
    ap₂ (λ (e : Entry) (es : List Entry). e ∷ es)
    (λ z. entry (number_at_take 4 4 8 l (omega arith) z) (number_at_take 2 0 8 l (omega arith) z) (number_at_take 2 2 8 l (omega arith) z))
    (chunks_series n (drop 8 l) ∙ series_same n _ _ (λ i h. entry_at_drop 8 (8 * i) l ∙ (let e : 8 + 8 * i ≡ 8 * suc i = omega arith in ap (entry_at l) e)))

-- for the part of a sheet that holds its entries, as a program lends it
pub entries_in_part : (l : ℕ) (bytes : List ℕ) (place : ℕ) {chunks : List (List ℕ)} → place ≡ entries_place l → Counted l bytes
    → let part = take (length bytes - place) (drop place bytes) in chunks ≡ first_chunks 8 (length part / 8) part
    → entries_in chunks ≡ (sheet_read l bytes).entries
unfolding sheet_read
entries_in_part l bytes place {chunks} e h q =
    let part : take (length bytes - place) (drop place bytes) ≡ drop place bytes = take_all (length bytes - place) (drop place bytes) (omega (arith, length-drop place bytes)) in
    let count : length (drop place bytes) / 8 ≡ number_at 2 count_place bytes = omega (arith, length-drop place bytes, h.size) in
    ap entries_in (q ∙ ap (λ (t : List ℕ). first_chunks 8 (length t / 8) t) part ∙ ap (λ (n : ℕ). first_chunks 8 n (drop place bytes)) count)
    ∙ chunks_series (number_at 2 count_place bytes) (drop place bytes)
    ∙ series_same (number_at 2 count_place bytes) _ _
    (λ i k. entry_at_drop place (8 * i) bytes ∙ ap (λ (j : ℕ). entry_at bytes (j + 8 * i)) e)
