-- The order by a number first and by another order where the numbers are equal: what its test says, and when it is a strict total
-- order. Assumes nothing.
use mathlib.Core.Path.{◌≡◌, sym, ◌∙◌}
use mathlib.Core.Logic.{◌⊎◌, inl, inr}
use mathlib.Core.Bool.{Bool, ◌&&◌, ◌||◌}
use Prim.Native.Nat.{ℕ, ◌<◌}
use native.Mathlib.Decide.{dec_lt}
use native.Mathlib.Omega.{arith}
use lib.Dec.{T, ltb, eqb, ltb→lt, lt→ltb, eqb→eq, eqb_refl}
use Rattle.lists.proofs.Tests.{and_in, and_out, or_left, or_right, or_out}
use Rattle.lists.proofs.Sorted.{Order}

-- to split a proof by how two numbers stand
pub compared : (a b : ℕ) → (a < b) ⊎ ((a ≡ b) ⊎ (b < a))
compared a b = go (dec_lt a b) (dec_lt b a)
  where
    go : Dec (a < b) → Dec (b < a) → (a < b) ⊎ ((a ≡ b) ⊎ (b < a))
    go (yes h) d = inl h
    go (no h) (yes k) = inr (inr k)
    go (no h) (no k) = inr (inl (omega arith))

module _ {A : Type 0} (key : A → ℕ) (less : A → A → Bool) where
  -- the order as a test
  abbrev pub lexicographic : A → A → Bool
  lexicographic x y = ltb (key x) (key y) || (eqb (key x) (key y) && less x y)

  -- the two reasons for the test: the number is less
  pub lexicographic_lt : (x y : A) → key x < key y → T (lexicographic x y)
  lexicographic_lt x y h = or_left (ltb (key x) (key y)) _ (lt→ltb (key x) (key y) h)

  -- or the numbers are equal, and the other order decides
  pub lexicographic_eq : (x y : A) → key x ≡ key y → T (less x y) → T (lexicographic x y)
  lexicographic_eq x y e h = or_right (ltb (key x) (key y)) _ (and_in (eqb (key x) (key y)) (less x y) (rw e (eqb_refl (key y))) h)

  -- to split on the test
  pub lexicographic_out : (x y : A) → T (lexicographic x y) → (key x < key y) ⊎ ((key x ≡ key y) × T (less x y))
  lexicographic_out x y h = go (or_out (ltb (key x) (key y)) _ h)
    where
      go : T (ltb (key x) (key y)) ⊎ T (eqb (key x) (key y) && less x y) → (key x < key y) ⊎ ((key x ≡ key y) × T (less x y))
      go (inl k) = inl (ltb→lt (key x) (key y) k)
      go (inr k) = let r = and_out (eqb (key x) (key y)) (less x y) k in inr (eqb→eq (key x) (key y) r.0, r.1)

  -- a strict total order, if the second one is, which need be total only where the numbers are equal
  pub lexicographic_order :
      ((x : A) → T (less x x) → ⊥)
      → ((x y z : A) → T (less x y) → T (less y z) → T (less x z))
      → ((x y : A) → key x ≡ key y → T (less x y) ⊎ ((x ≡ y) ⊎ T (less y x)))
      → Order lexicographic
  lexicographic_order irrefl trans total = record {
    irrefl = (λ x h. never x (lexicographic_out x x h));
    trans = (λ x y z h k. chain x y z (lexicographic_out x y h) (lexicographic_out y z k));
    total = (λ x y. either x y (compared (key x) (key y)));
  }
    where
      never : (x : A) → (key x < key x) ⊎ ((key x ≡ key x) × T (less x x)) → ⊥
      never x (inl h) = omega arith
      never x (inr h) = irrefl x h.1

      chain : (x y z : A) → (key x < key y) ⊎ ((key x ≡ key y) × T (less x y)) → (key y < key z) ⊎ ((key y ≡ key z) × T (less y z))
          → T (lexicographic x z)
      chain x y z (inl h) (inl k) = lexicographic_lt x z (omega arith)
      chain x y z (inl h) (inr k) = lexicographic_lt x z (omega arith)
      chain x y z (inr h) (inl k) = lexicographic_lt x z (omega arith)
      chain x y z (inr h) (inr k) = lexicographic_eq x z (h.0 ∙ k.0) (trans x y z h.1 k.1)

      tie : (x y : A) → key x ≡ key y → T (less x y) ⊎ ((x ≡ y) ⊎ T (less y x)) → T (lexicographic x y) ⊎ ((x ≡ y) ⊎ T (lexicographic y x))
      tie x y e (inl h) = inl (lexicographic_eq x y e h)
      tie x y e (inr (inl q)) = inr (inl q)
      tie x y e (inr (inr h)) = inr (inr (lexicographic_eq y x (sym e) h))

      either : (x y : A) → (key x < key y) ⊎ ((key x ≡ key y) ⊎ (key y < key x)) → T (lexicographic x y) ⊎ ((x ≡ y) ⊎ T (lexicographic y x))
      either x y (inl h) = inl (lexicographic_lt x y h)
      either x y (inr (inl e)) = tie x y e (total x y e)
      either x y (inr (inr h)) = inr (inr (lexicographic_lt y x h))
