-- Laws of the codeword: its steps, and its writing branch by branch, by the outputs that are left. Assumes nothing.
use mathlib.Core.Path.{◌≡◌, refl, sym, ap, ◌∙◌}
use mathlib.Core.List.{List, [], ◌∷◌, ◌++◌}
use Prim.Native.Nat.{ℕ, zero, suc, ◌+◌, ◌*◌, ◌≤◌, ◌<◌}
use native.Mathlib.Nat.{mul-suc, mul-le-mul_left}
use native.Mathlib.Numerals.{add-one}
use native.Mathlib.Omega.{arith}
use borrow.Rule.Slice.PartMut.{put_mid}
use lib.ListN.{length, get_or, take, drop, drop_of_length-le, replicate, length-append, length-replicate}
use lib.Pow.{pow_pos}
use lib.Seq.{drop-cons}
use Rattle.std.proofs.lemmas.List.{drop-drop, append_assoc, append-nil, take-append-drop}
use Rattle.std.proofs.lemmas.Slice.{take-put_mid, drop-put_mid}
use Rattle.codes.specs.Codes.{register_of, next_state, branch_outputs, outputs_from, with_tail}
use Rattle.codes.proofs.Registers.{next_below}
use Rattle.codes.proofs.Rules.{outputs_few, memory_few, room_enough, bit_small}

-- ---- the tail

-- at every place of the tail, and past it, stands 0
zeros : (m i : ℕ) → ◌≡◌ {A = ℕ} (get_or (replicate m 0) i 0) 0
zeros zero i = refl
zeros (suc m) zero = refl
zeros (suc m) (suc i) = zeros m i

-- for reading the tail's bits off the message alone
pub with_tail_at : (m : ℕ) (message : List ℕ) (i : ℕ) → get_or (with_tail m message) i 0 ≡ get_or message i 0
with_tail_at m [] i = zeros m i
with_tail_at m (b ∷ message) zero = refl
with_tail_at m (b ∷ message) (suc i) = with_tail_at m message i

-- for the number of steps: L + m
pub length_with_tail : (m : ℕ) (message : List ℕ) → length (with_tail m message) ≡ length message + m
length_with_tail m message = simp (length-append, length-replicate)

-- ---- branch by branch

-- for the branch's place in the buffer: n symbols a step, of which there are more
pub branch_fits : (n i steps : ℕ) → i < steps → n * i + n ≤ n * steps
branch_fits n i steps h = omega (arith, mul-suc n i, mul-le-mul_left n h)

module _ (generators : List ℕ) (m s : ℕ) (message : List ℕ) (i : ℕ) where
  -- the bit of the step
  abbrev bit : ℕ
  bit = get_or message i 0

  -- for the encoder's loop: what is left is the branch of this bit and the rest
  pub outputs_next : i < length message + m → outputs_from generators m s (drop i (with_tail m message))
      ≡ branch_outputs generators (register_of m bit s) ++ outputs_from generators m (next_state m bit s) (drop (i + 1) (with_tail m message))
  unfolding outputs_from
  outputs_next h =
      let more : i < length (with_tail m message) = omega (arith, length_with_tail m message) in
      rw (drop-cons (with_tail m message) i 0 more, add-one, with_tail_at m message i)

  -- for the encoder's end: nothing is left
  pub outputs_done : length message + m ≤ i → outputs_from generators m s (drop i (with_tail m message)) ≡ []
  unfolding outputs_from
  outputs_done h =
      let past : length (with_tail m message) ≤ i = omega (arith, length_with_tail m message) in
      rw (drop_of_length-le (with_tail m message) past)

-- ---- a part of a list written over

module _ {A : Type 0} (a n : ℕ) (l part : List A) (exact : length part ≡ n) (room : a + n ≤ length l) where
  -- what stands in front is longer by the part, so that less is left
  pub front_next : (left rest word : List A) (k b : ℕ) → k ≡ n → b ≡ a + n → left ≡ part ++ rest → take a l ++ left ≡ word
      → take b (put_mid a k l part) ++ rest ≡ word
  front_next left rest word k b e h split done =
      rw (take-put_mid a k l part b (omega arith) (omega arith))
      (append_assoc (take a l) part rest ∙ ap (λ (r : List A). take a l ++ r) (sym split) ∙ done)

  -- and what stands behind is untouched
  pub back_next : (first : List A) (k b : ℕ) → k ≡ n → b ≡ a + n → drop a l ≡ drop a first → drop b (put_mid a k l part) ≡ drop b first
  back_next first k b e h same =
      drop-put_mid a k l part b (omega arith) (omega arith) (omega arith)
      ∙ rw h (sym (drop-drop n a l) ∙ ap (drop n) same ∙ drop-drop n a first)

-- what the encoder's writing cites
pub ruleset writing = (outputs_few, memory_few, room_enough, bit_small, branch_fits, next_below, outputs_done, append-nil, take-append-drop, pow_pos)
