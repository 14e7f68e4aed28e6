-- A computed test as a fact, T: how to split on it, its value, T of 'and' and 'or'.
-- Not here: tests on numbers (lib.Dec; borrow.Author.Tests), a test and its negation (T-not, not-T in lib.Dec). Assumes nothing.
use mathlib.Core.Path.{◌≡◌, refl}
use mathlib.Core.Logic.{◌⊎◌, inl, inr}
use mathlib.Core.Bool.{Bool, true, false, ◌&&◌, ◌||◌, and-eq-true_iff}
use lib.Dec.{T}

-- to split a proof on a test
pub test : (b : Bool) → Dec (T b)
test true = yes tt
test false = no (λ h. h)

-- from the kit's `b ≡ true`
pub true_in : (b : Bool) → b ≡ true → T b
true_in b e = rw e tt

-- and back; `rw (true_out b h)` and `rw (false_out b h)` go on with a choice by the test
pub true_out : (b : Bool) → T b → b ≡ true
true_out false h = elim h [ ]
true_out true h = refl

-- a test that fails
pub false_out : (b : Bool) → (T b → ⊥) → b ≡ false
false_out true h = absurd (h tt)
false_out false h = refl

-- ---- and, or

-- both
pub and_in : (a b : Bool) → T a → T b → T (a && b)
and_in false b h k = elim h [ ]
and_in true b h k = k

-- and back
pub and_out : (a b : Bool) → T (a && b) → T a × T b
and_out false b h = elim h [ ]
and_out true b h = (tt, h)

-- one of them
pub or_left : (a b : Bool) → T a → T (a || b)
or_left false b h = elim h [ ]
or_left true b h = tt

-- or the other
pub or_right : (a b : Bool) → T b → T (a || b)
or_right true b h = tt
or_right false b h = h

-- to split on it
pub or_out : (a b : Bool) → T (a || b) → T a ⊎ T b
or_out true b h = inl tt
or_out false b h = inr h

-- for tests that are compared with true, as contracts have them: the kit's law, this way only
pub both : (a b : Bool) → (a && b) ≡ true → (a ≡ true) × (b ≡ true)
both a b = (and-eq-true_iff a b).0
