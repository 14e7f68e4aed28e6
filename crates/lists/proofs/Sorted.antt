-- Sorted lists, by a strict total order that is a computed test: sort sorts and keeps the members, a front of a sorted list is sorted,
-- and what stands before a member is known by the order alone. Assumes nothing.
use mathlib.Core.Path.{◌≡◌, refl, sym, ap, ◌∙◌, subst}
use mathlib.Core.Logic.{◌⊎◌, inl, inr}
use mathlib.Core.List.{List, [], ◌∷◌, ◌++◌}
use mathlib.Core.Bool.{Bool}
use Prim.Native.Nat.{ℕ, zero, suc}
use lib.Dec.{T}
use lib.ListN.{take}
use Rattle.lists.specs.Lists.{keep, insert, sort}
use Rattle.lists.proofs.Tests.{test, true_out, false_out}
use Rattle.lists.proofs.Membership.{◌∈◌, here, further, nil_out, append_right, Every, Within, every_cons, take_out, keep_yes, keep_none}
use Rattle.lists.proofs.Unique.{Unique}

module _ {A : Type 0} (less : A → A → Bool) where
  -- each element before all after it
  abbrev pub Sorted : List A → Type 0
  Sorted [] = Unit {0}
  Sorted (x ∷ xs) = Every (λ y. T (less x y)) xs × Sorted xs

  -- a strict total order
  pub record Order : Type 0 where
    pub irrefl : (a : A) → T (less a a) → ⊥
    pub trans : (a b c : A) → T (less a b) → T (less b c) → T (less a c)
    pub total : (a b : A) → T (less a b) ⊎ ((a ≡ b) ⊎ T (less b a))

  -- ---- members

  -- how insert goes on, where the test of the first is known
  insert_here : (a x : A) (l : List A) → T (less a x) → insert less a (x ∷ l) ≡ a ∷ x ∷ l
  unfolding insert
  insert_here a x l h = rw (true_out (less a x) h)

  insert_later : (a x : A) (l : List A) → (T (less a x) → ⊥) → insert less a (x ∷ l) ≡ x ∷ insert less a l
  unfolding insert
  insert_later a x l h = rw (false_out (less a x) h)

  -- insert adds its element alone
  pub insert_in : (a : A) (l : List A) → Within (a ∷ l) (insert less a l)
  unfolding insert
  insert_in a [] b m = m
  insert_in a (x ∷ l) b m = go (test (less a x)) m (λ k. insert_in a l b k)
    where
      go : Dec (T (less a x)) → b ∈ (a ∷ x ∷ l) → (b ∈ (a ∷ l) → b ∈ insert less a l) → b ∈ insert less a (x ∷ l)
      go (yes h) k ih = rw (insert_here a x l h) k
      go (no h) (here e) ih = rw (insert_later a x l h) (further (ih (here e)))
      go (no h) (further (here e)) ih = rw (insert_later a x l h) (here e)
      go (no h) (further (further k)) ih = rw (insert_later a x l h) (further (ih (further k)))

  -- and no other
  pub insert_out : (a : A) (l : List A) → Within (insert less a l) (a ∷ l)
  unfolding insert
  insert_out a [] b m = m
  insert_out a (x ∷ l) b m = go (test (less a x)) (λ k. insert_out a l b k)
    where
      shift : b ∈ (a ∷ l) → b ∈ (a ∷ x ∷ l)
      shift (here e) = here e
      shift (further k) = further (further k)

      later : b ∈ (x ∷ insert less a l) → (b ∈ insert less a l → b ∈ (a ∷ l)) → b ∈ (a ∷ x ∷ l)
      later (here e) ih = further (here e)
      later (further k) ih = shift (ih k)

      go : Dec (T (less a x)) → (b ∈ insert less a l → b ∈ (a ∷ l)) → b ∈ (a ∷ x ∷ l)
      go (yes h) ih = rw (insert_here a x l h) at m
      go (no h) ih = later (rw (insert_later a x l h) at m) ih

  -- sort keeps the members
  pub sort_in : (l : List A) → Within l (sort less l)
  unfolding sort
  sort_in [] a m = elim m [ ]
  sort_in (x ∷ l) a (here e) = insert_in x (sort less l) a (here e)
  sort_in (x ∷ l) a (further m) = insert_in x (sort less l) a (further (sort_in l a m))

  -- and adds none
  pub sort_out : (l : List A) → Within (sort less l) l
  unfolding sort
  sort_out [] a m = m
  sort_out (x ∷ l) a m = go (insert_out x (sort less l) a m) (λ k. sort_out l a k)
    where
      go : a ∈ (x ∷ sort less l) → (a ∈ sort less l → a ∈ l) → a ∈ (x ∷ l)
      go (here e) ih = here e
      go (further k) ih = further (ih k)

  -- ---- fronts

  -- a front of a sorted list
  pub take_sorted : (n : ℕ) (l : List A) → Sorted l → Sorted (take n l)
  take_sorted zero l s = tt
  take_sorted (suc n) [] s = tt
  take_sorted (suc n) (x ∷ l) s = (λ a m. s.0 a (take_out n l a m), take_sorted n l s.1)

  -- a member of a sorted list is in the front, or all of the front is before it
  pub take_or_after : (n : ℕ) (l : List A) → Sorted l → (a : A) → a ∈ l → (a ∈ take n l) ⊎ Every (λ x. T (less x a)) (take n l)
  take_or_after (suc n) [] s a m = elim m [ ]
  take_or_after zero l s a m = inr (λ b k. absurd (nil_out k))
  take_or_after (suc n) (x ∷ l) s a (here e) = inl (here e)
  take_or_after (suc n) (x ∷ l) s a (further m) = go (take_or_after n l s.1 a m)
    where
      go : (a ∈ take n l) ⊎ Every (λ y. T (less y a)) (take n l) → (a ∈ (x ∷ take n l)) ⊎ Every (λ y. T (less y a)) (x ∷ take n l)
      go (inl k) = inl (further k)
      go (inr k) = inr (every_cons (λ y. T (less y a)) (s.0 a m) k)

  -- what stands in front of a member is before it
  pub sorted_append : (p q : List A) (z : A) → Sorted (p ++ z ∷ q) → Every (λ x. T (less x z)) p
  sorted_append [] q z s y m = elim m [ ]
  sorted_append (x ∷ p) q z s y (here e) = subst (λ (u : A). T (less u z)) (sym e) (s.0 z (append_right p (here refl)))
  sorted_append (x ∷ p) q z s y (further m) = sorted_append p q z s.1 y m

  -- so that the members can be counted, even if the order does not tell all elements apart
  pub irreflexive_unique : ((a : A) → T (less a a) → ⊥) → (l : List A) → Sorted l → Unique l
  irreflexive_unique never [] s = tt
  irreflexive_unique never (x ∷ l) s = (λ m. never x (s.0 x m), irreflexive_unique never l s.1)

  module _ (o : Order) where
    -- ---- sort sorts

    -- by insertion, where no element comes twice
    pub insert_sorted : (a : A) (l : List A) → (a ∈ l → ⊥) → Sorted l → Sorted (insert less a l)
    unfolding insert
    insert_sorted a [] new s = (λ b m. absurd (nil_out m), tt)
    insert_sorted a (x ∷ l) new s = go (test (less a x)) (insert_sorted a l (λ m. new (further m)) s.1)
      where
        late : (T (less a x) → ⊥) → T (less a x) ⊎ ((a ≡ x) ⊎ T (less x a)) → T (less x a)
        late n (inl h) = absurd (n h)
        late n (inr (inl e)) = absurd (new (here e))
        late n (inr (inr h)) = h

        go : Dec (T (less a x)) → Sorted (insert less a l) → Sorted (insert less a (x ∷ l))
        go (yes h) ih = rw (insert_here a x l h) (every_cons (λ y. T (less a y)) h (λ b m. o.trans a x b h (s.0 b m)), s)
        go (no h) ih =
            rw (insert_later a x l h) (λ b m. every_cons (λ y. T (less x y)) (late h (o.total a x)) s.0 b (insert_out a l b m), ih)

    -- so of a list without repeats
    pub sort_sorted : (l : List A) → Unique l → Sorted (sort less l)
    unfolding sort
    sort_sorted [] u = tt
    sort_sorted (x ∷ l) u = insert_sorted x (sort less l) (λ m. u.0 (sort_out l x m)) (sort_sorted l u.1)

    -- the same of a strict total order
    pub sorted_unique : (l : List A) → Sorted l → Unique l
    sorted_unique = irreflexive_unique o.irrefl

    -- ---- by the order alone

    -- what stands before one of the first j + 1 is one of the first j
    pub take_before : (j : ℕ) (l : List A) → Sorted l → {e f : A} → e ∈ take (suc j) l → f ∈ l → T (less f e) → f ∈ take j l
    take_before j [] s m k h = absurd (nil_out k)
    take_before j (x ∷ l) s (here e) (here f) h = absurd (o.irrefl x (rw (f, e) at h))
    take_before j (x ∷ l) s (here e) (further k) h = absurd (o.irrefl x (o.trans x _ x (s.0 _ k) (rw e at h)))
    take_before zero (x ∷ l) s (further m) k h = absurd (nil_out m)
    take_before (suc j) (x ∷ l) s (further m) (here f) h = here f
    take_before (suc j) (x ∷ l) s (further m) (further k) h = further (take_before j l s.1 m k h)

    -- what stands before a member of a sorted list
    pub keep_before : (p q : List A) (z : A) → Sorted (p ++ z ∷ q) → keep (λ x. less x z) (p ++ z ∷ q) ≡ p
    keep_before [] q z s =
        keep_none (λ x. less x z) (z ∷ q)
        (every_cons (λ x. T (less x z) → ⊥) (o.irrefl z) (λ x m h. o.irrefl z (o.trans z x z (s.0 x m) h)))
    keep_before (x ∷ p) q z s =
        keep_yes (λ x. less x z) x (p ++ z ∷ q) (s.0 z (append_right p (here refl)))
        ∙ ap (λ (l : List A). x ∷ l) (keep_before p q z s.1)
