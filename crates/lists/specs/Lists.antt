-- The few functions on lists that our definitions are written with and the kit lacks: tests over a list, choice by a test,
-- numbers below a bound, distinct members, sorting, the least of a list. All of them compute.
-- Their laws are not here: they stand in proofs/, a file for each notion. Assumes nothing.
use Rattle.std.specs.Prelude.{List, [], ◌∷◌, Bool, true, false, cond, ◌&&◌, ◌||◌, ℕ, zero, suc, min}

module _ {A : Type 0} where
  -- every member passes the test
  unfoldable pub all : (A → Bool) → List A → Bool
  all p [] = true
  all p (x ∷ xs) = p x && all p xs

  -- some member passes the test
  unfoldable pub any : (A → Bool) → List A → Bool
  any p [] = false
  any p (x ∷ xs) = p x || any p xs

  -- the members that pass the test, in their order
  unfoldable pub keep : (A → Bool) → List A → List A
  keep p [] = []
  keep p (x ∷ xs) = cond (p x) (x ∷ keep p xs) (keep p xs)

  -- each member once, where the test says which are the same
  unfoldable pub distinct : (A → A → Bool) → List A → List A
  distinct same [] = []
  distinct same (x ∷ xs) = let rest : List A = distinct same xs in cond (any (same x) rest) rest (x ∷ rest)

  -- ---- order

  -- an element put before the first that it is less than
  unfoldable pub insert : (A → A → Bool) → A → List A → List A
  insert less a [] = a ∷ []
  insert less a (x ∷ xs) = let rest : List A = insert less a xs in cond (less a x) (a ∷ x ∷ xs) (x ∷ rest)

  -- the members in order, smallest first
  unfoldable pub sort : (A → A → Bool) → List A → List A
  sort less [] = []
  sort less (x ∷ xs) = insert less x (sort less xs)

-- ---- numbers

-- the numbers below n, largest first
unfoldable pub below : ℕ → List ℕ
below zero = []
below (suc n) = n ∷ below n

-- the smallest of a list; 0 of none
unfoldable pub least : List ℕ → ℕ
least [] = 0
least (x ∷ []) = x
least (x ∷ y ∷ rest) = min x (least (y ∷ rest))
