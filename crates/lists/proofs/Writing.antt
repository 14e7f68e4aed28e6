-- A loop that writes a list over a buffer, element by element or piece by piece, by the work that is left: writing what is left over
-- the buffer as it is gives what writing all of it over the first buffer gives. `sets l i vs` is l with vs written from place i on.
-- First one element a turn, with the record that is such a loop's invariant; then one piece a turn; then what a caller reads.
-- Assumes nothing.
use mathlib.Core.Path.{◌≡◌, refl, sym, ap, ◌∙◌}
use mathlib.Core.List.{List, [], ◌∷◌, ◌++◌}
use Prim.Native.Nat.{ℕ, suc, ◌+◌, ◌≤◌, ◌<◌}
use native.Mathlib.Numerals.{add-one}
use native.Mathlib.Omega.{arith}
use lib.ListN.{length, get_or, drop, set, length-set, drop_of_length-le}
use lib.Seq.{drop-cons, sets, sets-eq}

module _ {A : Type 0} where
  -- for a loop that writes one element a turn: the turn
  pub sets_next : (l vs : List A) (at j : ℕ) (d : A) → j < length vs
      → sets l (at + j) (drop j vs) ≡ sets (set l (at + j) (get_or vs j d)) (at + (j + 1)) (drop (j + 1) vs)
  sets_next l vs at j d h =
      let e : suc (at + j) ≡ at + suc j = omega arith in
      rw (drop-cons vs j d h, add-one, ← e)

  -- and its end: nothing is left
  pub sets_done : (l vs : List A) (at j : ℕ) → length vs ≤ j → sets l (at + j) (drop j vs) ≡ l
  sets_done l vs at j h = rw (drop_of_length-le vs h)

  -- A list vs is being written over a buffer, from place at on: j elements are written, and what is left of vs, written over the
  -- buffer as it is, gives what writing all of vs over the first buffer gives.
  pub record Filling (first vs : List A) (at : ℕ) (l : List A) (j : ℕ) : Type 0 where
    pub within : j ≤ length vs
    pub kept : length l ≡ length first
    pub left : sets l (at + j) (drop j vs) ≡ sets first at vs

  -- for such a loop's start
  pub filling_start : (first vs : List A) (at : ℕ) → Filling first vs at first 0
  filling_start first vs at = let e : at + 0 ≡ at = omega arith in record { within = omega arith; kept = refl; left = rw e }

  -- its next turn
  pub filling_next : {first vs : List A} {at : ℕ} {l : List A} {j : ℕ} (d : A) → j < length vs → Filling first vs at l j
      → Filling first vs at (set l (at + j) (get_or vs j d)) (j + 1)
  filling_next {vs = vs} {at = at} {l = l} {j = j} d h f = record {
    within = omega arith;
    kept = length-set l (at + j) (get_or vs j d) ∙ f.kept;
    left = sym (sets_next l vs at j d h) ∙ f.left;
  }

  -- and its end
  pub filling_done : {first vs : List A} {at : ℕ} {l : List A} {j : ℕ} → length vs ≤ j → Filling first vs at l j → l ≡ sets first at vs
  filling_done {vs = vs} {at = at} {l = l} {j = j} h f = sym (sets_done l vs at j h) ∙ f.left

  -- for a loop that writes one piece a turn
  pub sets_append : (l vs ws : List A) (at : ℕ) → sets l at (vs ++ ws) ≡ sets (sets l at vs) (at + length vs) ws
  sets_append l [] ws at = let e : at + 0 ≡ at = omega arith in rw e
  sets_append l (v ∷ vs) ws at =
      let e : suc at + length vs ≡ at + suc (length vs) = omega arith in
      sets_append (set l at v) vs ws (suc at) ∙ ap (λ (k : ℕ). sets (sets (set l at v) (suc at) vs) k ws) e

  -- what a caller reads: the list in front, the excess untouched
  pub sets_front : (l vs : List A) → length vs ≤ length l → sets l 0 vs ≡ vs ++ drop (length vs) l
  sets_front l vs h =
      let e : 0 + length vs ≡ length vs = omega arith in
      let fits : 0 + length vs ≤ length l = omega arith in
      sets-eq vs l 0 fits ∙ ap (λ (k : ℕ). vs ++ drop k l) e
