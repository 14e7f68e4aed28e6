-- The block as plain numbers: what stands at a place, that the view is read back whole, and what `see` leaves in a buffer.
-- Assumes nothing.
use mathlib.Core.Path.{◌≡◌, refl, ap, ap₂, ◌∙◌}
use mathlib.Core.List.{List, [], ◌∷◌, ◌++◌}
use Prim.Native.Nat.{ℕ, ◌+◌, ◌*◌, ◌/◌, ◌%◌, ◌≤◌}
use native.Mathlib.Omega.{arith}
use lib.IntN.{ℤ, pos}
use lib.ListN.{length, get_or, take, drop, length-map, get_or-map}
use lib.Seq.{sets, take_at}
use Rattle.lists.proofs.Writing.{sets_front}
use Rattle.blocks.specs.Symbols.{Seen, hard_bit, weight, view}
use Rattle.blocks.specs.Packed.{pack, unpack, packed, seen_in}
use Rattle.blocks.proofs.Weights.{hard_bit_bit}

-- ---- lengths and places

-- for sizes: one number a symbol
pub length_packed : (symbols : List ℤ) → length (packed (view symbols)) ≡ length symbols
unfolding packed view
length_packed symbols = length-map (view symbols) pack ∙ length-map symbols _

-- for the loop that writes: the number of a symbol stands at its place
pub packed_at : (symbols : List ℤ) (i : ℕ) → let z = get_or symbols i (pos 0) in get_or (packed (view symbols)) i 0 ≡ weight z * 2 + hard_bit z
unfolding packed view
packed_at symbols i = get_or-map pack (view symbols) i (record { hard_bit = 0; weight = 0 }) ∙ ap pack (get_or-map _ symbols i (pos 0))

-- ---- read back

-- a symbol is what its number shows
unpack_pack : (z : ℤ) → unpack (weight z * 2 + hard_bit z) ≡ record { hard_bit = hard_bit z; weight = weight z }
unpack_pack z =
    let bit : (weight z * 2 + hard_bit z) % 2 ≡ hard_bit z = omega (arith, hard_bit_bit z) in
    let half : (weight z * 2 + hard_bit z) / 2 ≡ weight z = omega (arith, hard_bit_bit z) in
    λ i. record { hard_bit = bit i; weight = half i }

-- for whoever reads the numbers: they hold the view
pub seen_in_packed : (symbols : List ℤ) → seen_in (packed (view symbols)) ≡ view symbols
unfolding seen_in packed view
seen_in_packed [] = refl
seen_in_packed (z ∷ symbols) = ap₂ (λ (x : Seen) (l : List Seen). x ∷ l) (unpack_pack z) (seen_in_packed symbols)

-- ---- what `see` leaves in a buffer

module _ (symbols : List ℤ) (seen : List ℕ) (room : length symbols ≤ length seen) where
  -- the numbers in front, the rest untouched
  pub see_front : sets seen 0 (packed (view symbols)) ≡ packed (view symbols) ++ drop (length symbols) seen
  see_front =
      sets_front seen (packed (view symbols)) (omega (arith, length_packed symbols))
      ∙ ap (λ (k : ℕ). packed (view symbols) ++ drop k seen) (length_packed symbols)

  -- for the part that is lent on: it is the numbers
  pub see_part : take (length symbols) (sets seen 0 (packed (view symbols))) ≡ packed (view symbols)
  see_part =
      ap (take (length symbols)) see_front
      ∙ take_at (packed (view symbols)) (drop (length symbols) seen) (length symbols) (length_packed symbols)
