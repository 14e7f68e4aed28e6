-- Each member once, by a test that is equality: the same members, none twice. Assumes nothing.
use mathlib.Core.Path.{◌≡◌}
use mathlib.Core.List.{List, [], ◌∷◌}
use mathlib.Core.Bool.{Bool}
use lib.Dec.{T}
use Rattle.lists.specs.Lists.{any, distinct}
use Rattle.lists.proofs.Tests.{test, true_out, false_out}
use Rattle.lists.proofs.Membership.{◌∈◌, here, further, member_cast, Within, any_in, any_out}
use Rattle.lists.proofs.Unique.{Unique}

module _ {A : Type 0} where
  -- a test that is equality
  pub record Equality (same : A → A → Bool) : Type 0 where
    pub sound : (a b : A) → T (same a b) → a ≡ b
    pub complete : (a : A) → T (same a a)

  module _ (same : A → A → Bool) (eq : Equality same) where
    -- the test over a list is membership
    pub listed_in : {l : List A} {a : A} → a ∈ l → T (any (same a) l)
    listed_in {a = a} m = any_in (same a) m (eq.complete a)

    -- and back
    pub listed_out : (l : List A) (a : A) → T (any (same a) l) → a ∈ l
    listed_out l a h = let r = any_out (same a) l h in member_cast (eq.sound a r.which r.passes) r.member

    -- how distinct goes on, where it is known if the first comes again
    distinct_again : (x : A) (l : List A) → T (any (same x) (distinct same l)) → distinct same (x ∷ l) ≡ distinct same l
    unfolding distinct
    distinct_again x l h = rw (true_out (any (same x) (distinct same l)) h)

    distinct_new : (x : A) (l : List A) → (T (any (same x) (distinct same l)) → ⊥) → distinct same (x ∷ l) ≡ x ∷ distinct same l
    unfolding distinct
    distinct_new x l h = rw (false_out (any (same x) (distinct same l)) h)

    -- the same members
    pub distinct_in : (l : List A) → Within l (distinct same l)
    distinct_in [] a m = elim m [ ]
    distinct_in (x ∷ l) a m = go (test (any (same x) (distinct same l))) m (λ k. distinct_in l a k)
      where
        go : Dec (T (any (same x) (distinct same l))) → a ∈ (x ∷ l) → (a ∈ l → a ∈ distinct same l) → a ∈ distinct same (x ∷ l)
        go (yes h) (here e) ih = rw (distinct_again x l h) (member_cast e (listed_out (distinct same l) x h))
        go (yes h) (further k) ih = rw (distinct_again x l h) (ih k)
        go (no h) (here e) ih = rw (distinct_new x l h) (here e)
        go (no h) (further k) ih = rw (distinct_new x l h) (further (ih k))

    -- and no others
    pub distinct_out : (l : List A) → Within (distinct same l) l
    unfolding distinct
    distinct_out [] a m = m
    distinct_out (x ∷ l) a m = go (test (any (same x) (distinct same l))) (λ k. distinct_out l a k)
      where
        new : a ∈ (x ∷ distinct same l) → (a ∈ distinct same l → a ∈ l) → a ∈ (x ∷ l)
        new (here e) ih = here e
        new (further k) ih = further (ih k)

        go : Dec (T (any (same x) (distinct same l))) → (a ∈ distinct same l → a ∈ l) → a ∈ (x ∷ l)
        go (yes h) ih = further (ih (rw (distinct_again x l h) at m))
        go (no h) ih = new (rw (distinct_new x l h) at m) ih

    -- none twice
    pub distinct_unique : (l : List A) → Unique (distinct same l)
    unfolding distinct
    distinct_unique [] = tt
    distinct_unique (x ∷ l) = go (test (any (same x) (distinct same l))) (distinct_unique l)
      where
        go : Dec (T (any (same x) (distinct same l))) → Unique (distinct same l) → Unique (distinct same (x ∷ l))
        go (yes h) ih = rw (distinct_again x l h) ih
        go (no h) ih = rw (distinct_new x l h) (λ m. h (listed_in m), ih)
