-- What the members of a list are: of map, flat_map, keep, take, reverse, the numbers below, and what all and any say of them.
-- A law NAME-in puts a member in, NAME-out says where a member comes from. The kit's own laws are passed on by such names: a member
-- is `here` or `further` on, and member-cast goes to an equal element; nil-out, singleton-out, append-out; append_left, append_right,
-- map-in. Where a member stands in its list is not here. Assumes nothing.
use mathlib.Core.Path.{◌≡◌, refl, sym, ap, ◌∙◌, subst}
use mathlib.Core.Logic.{◌⊎◌, inl, inr}
use mathlib.Core.List.Memᴰ
use mathlib.Core.List.{List, [], ◌∷◌, map, flat_map, reverse, reverse_aux, Memᴰ}
pub use mathlib.Core.List.Memᴰ.{cast as member_cast}
pub use mathlib.Core.List.Memᴰ.{head as here}
pub use mathlib.Core.List.Memᴰ.{not-nil as nil_out}
pub use mathlib.Core.List.Memᴰ.{tail as further}
pub use mathlib.Core.List.Memᴰ.{append_cases as append_out}
pub use mathlib.Core.List.Memᴰ.{eq_of_singleton as singleton_out}
pub use mathlib.Core.List.Memᴰ.{append_left}
pub use mathlib.Core.List.Memᴰ.{append_right}
pub use mathlib.Core.List.Memᴰ.{map as map_in}
use mathlib.Core.Bool.{Bool}
use Prim.Native.Nat.{ℕ, zero, suc, ◌≤◌, ◌<◌}
use native.Mathlib.Nat.{le_of_suc-le-suc, not-suc-le-zero}
use native.Mathlib.Decide.{ℕ_discrete}
use native.Mathlib.Omega.{arith}
use lib.Dec.{T}
use lib.ListN.{length, take}
use Rattle.lists.specs.Lists.{all, any, keep, below}
use Rattle.lists.proofs.Tests.{test, and_in, and_out, or_left, or_right, or_out, true_out, false_out}

-- a member of a list: the kit's, by a sign
infix 20 ◌∈◌
abbrev pub ◌∈◌ {ℓ} : {A : Type ℓ} → A → List A → Type ℓ
a ∈ l = Memᴰ a l

module _ {A : Type 0} where
  -- every member has P
  abbrev pub Every : (A → Type 0) → List A → Type 0
  Every P l = (a : A) → a ∈ l → P a

  -- every member of s is a member of t
  abbrev pub Within : List A → List A → Type 0
  Within s t = (a : A) → a ∈ s → a ∈ t

  -- to show a fact of every member, the first apart
  pub every_cons : (P : A → Type 0) {x : A} {xs : List A} → P x → Every P xs → Every P (x ∷ xs)
  every_cons P h k a (here e) = subst P (sym e) h
  every_cons P h k a (further m) = k a m

  -- a list with a member is not empty
  pub member_length : {l : List A} {a : A} → a ∈ l → 0 < length l
  member_length {l = []} {a = a} m = elim m [ ]
  member_length {l = x ∷ l} m = omega arith

  -- a list with a member and no more than one is that member alone
  pub only_member : (l : List A) {a : A} → a ∈ l → length l ≤ 1 → l ≡ a ∷ []
  only_member [] {a = a} m h = elim m [ ]
  only_member (x ∷ []) m h = ap (λ (y : A). y ∷ []) (sym (singleton_out m))
  only_member (x ∷ y ∷ l) m h = absurd (omega arith)

  -- ---- take

  -- a member of a front is a member
  pub take_out : (n : ℕ) (l : List A) → Within (take n l) l
  take_out zero l a m = absurd (nil_out m)
  take_out (suc n) [] a m = m
  take_out (suc n) (x ∷ l) a (here e) = here e
  take_out (suc n) (x ∷ l) a (further m) = further (take_out n l a m)

  -- a longer front has all members of a shorter one
  pub take_more : (m n : ℕ) (l : List A) → m ≤ n → Within (take m l) (take n l)
  take_more zero n l h a m = absurd (nil_out m)
  take_more (suc m) zero l h a k = absurd (not-suc-le-zero h)
  take_more (suc m) (suc n) [] h a k = k
  take_more (suc m) (suc n) (x ∷ l) h a (here e) = here e
  take_more (suc m) (suc n) (x ∷ l) h a (further k) = further (take_more m n l (le_of_suc-le-suc h) a k)

  -- ---- reverse

  -- with what stands behind the part that is still to be reversed
  reverse_aux_out : (l r : List A) {a : A} → a ∈ reverse_aux l r → (a ∈ l) ⊎ (a ∈ r)
  reverse_aux_out [] r m = inr m
  reverse_aux_out (x ∷ l) r {a} m = go (reverse_aux_out l (x ∷ r) m)
    where
      go : (a ∈ l) ⊎ (a ∈ (x ∷ r)) → (a ∈ (x ∷ l)) ⊎ (a ∈ r)
      go (inl k) = inl (further k)
      go (inr (here e)) = inl (here e)
      go (inr (further k)) = inr k

  -- the same members; the other way by reverse-reverse
  pub reverse_out : (l : List A) → Within (reverse l) l
  reverse_out l a m = go (reverse_aux_out l [] m)
    where
      go : (a ∈ l) ⊎ (a ∈ []) → a ∈ l
      go (inl k) = k
      go (inr k) = absurd (nil_out k)

  module _ (p : A → Bool) where
    -- ---- keep

    -- how keep goes on where the first passes
    pub keep_yes : (x : A) (l : List A) → T (p x) → keep p (x ∷ l) ≡ x ∷ keep p l
    unfolding keep
    keep_yes x l h = rw (true_out (p x) h)

    -- and where it does not
    pub keep_no : (x : A) (l : List A) → (T (p x) → ⊥) → keep p (x ∷ l) ≡ keep p l
    unfolding keep
    keep_no x l h = rw (false_out (p x) h)

    -- nothing of a list is kept
    pub keep_none : (l : List A) → Every (λ x. T (p x) → ⊥) l → keep p l ≡ []
    unfolding keep
    keep_none [] h = refl
    keep_none (x ∷ l) h = keep_no x l (h x (here refl)) ∙ keep_none l (λ y m. h y (further m))

    -- the kept members are those that pass
    pub keep_in : {a : A} {l : List A} → a ∈ l → T (p a) → a ∈ keep p l
    keep_in {a = a} {l = []} m h = elim m [ ]
    keep_in {l = x ∷ l} (here e) h = rw (keep_yes x l (subst (λ (y : A). T (p y)) e h)) (here e)
    keep_in {a = a} {l = x ∷ l} (further m) h = go (test (p x)) (keep_in m h)
      where
        go : Dec (T (p x)) → a ∈ keep p l → a ∈ keep p (x ∷ l)
        go (yes t) k = rw (keep_yes x l t) (further k)
        go (no t) k = rw (keep_no x l t) k

    -- where a kept member comes from
    pub record Kept (l : List A) (a : A) : Type 0 where
      pub member : a ∈ l
      pub passes : T (p a)

    -- to split on a kept member
    pub keep_out : (l : List A) {a : A} → a ∈ keep p l → Kept l a
    unfolding keep
    keep_out [] m = absurd (nil_out m)
    keep_out (x ∷ l) {a} m = go (test (p x)) (λ k. keep_out l k)
      where
        later : Kept l a → Kept (x ∷ l) a
        later r = record { member = further r.member; passes = r.passes }

        first : T (p x) → (a ∈ keep p l → Kept l a) → a ∈ (x ∷ keep p l) → Kept (x ∷ l) a
        first t ih (here e) = record { member = here e; passes = subst (λ (y : A). T (p y)) (sym e) t }
        first t ih (further k) = later (ih k)

        go : Dec (T (p x)) → (a ∈ keep p l → Kept l a) → Kept (x ∷ l) a
        go (yes t) ih = first t ih (rw (keep_yes x l t) at m)
        go (no t) ih = later (ih (rw (keep_no x l t) at m))

    -- ---- all and any

    -- all: every member passes
    pub all_in : (l : List A) → Every (λ a. T (p a)) l → T (all p l)
    unfolding all
    all_in [] h = tt
    all_in (x ∷ l) h = and_in (p x) (all p l) (h x (here refl)) (all_in l (λ a m. h a (further m)))

    -- and back
    pub all_out : (l : List A) → T (all p l) → Every (λ a. T (p a)) l
    unfolding all
    all_out [] h a m = elim m [ ]
    all_out (x ∷ l) h a (here e) = subst (λ (y : A). T (p y)) (sym e) (and_out (p x) (all p l) h).0
    all_out (x ∷ l) h a (further m) = all_out l (and_out (p x) (all p l) h).1 a m

    -- any: some member passes
    pub any_in : {a : A} {l : List A} → a ∈ l → T (p a) → T (any p l)
    unfolding any
    any_in {a = a} {l = []} m h = elim m [ ]
    any_in {l = x ∷ l} (here e) h = or_left (p x) (any p l) (subst (λ (y : A). T (p y)) e h)
    any_in {l = x ∷ l} (further m) h = or_right (p x) (any p l) (any_in m h)

    -- the member that passes
    pub record Passing (l : List A) : Type 0 where
      pub which : A
      pub member : which ∈ l
      pub passes : T (p which)

    -- to take it out of the test
    pub any_out : (l : List A) → T (any p l) → Passing l
    unfolding any
    any_out [] h = elim h [ ]
    any_out (x ∷ l) h = go (or_out (p x) (any p l) h) (λ k. any_out l k)
      where
        go : T (p x) ⊎ T (any p l) → (T (any p l) → Passing l) → Passing (x ∷ l)
        go (inl t) ih = record { which = x; member = here refl; passes = t }
        go (inr k) ih = let r = ih k in record { which = r.which; member = further r.member; passes = r.passes }

-- ---- map and flat_map

module _ {A B : Type 0} where
  -- where a member of a map comes from
  pub record Mapped (f : A → B) (l : List A) (b : B) : Type 0 where
    pub source : A
    pub member : source ∈ l
    pub equal : b ≡ f source

  -- to take it out of the map
  pub map_out : (f : A → B) (l : List A) {b : B} → b ∈ map f l → Mapped f l b
  map_out f l m = let r = Memᴰ.of_map f l m in record { source = r.0; member = r.1; equal = sym r.2 }

  -- where a member of a flat_map comes from
  pub record FlatMapped (f : A → List B) (l : List A) (b : B) : Type 0 where
    pub source : A
    pub member : source ∈ l
    pub inner : b ∈ f source

  -- a member of one of the lists is a member
  pub flat_map_in : (f : A → List B) {a : A} {l : List A} {b : B} → a ∈ l → b ∈ f a → b ∈ flat_map f l
  unfolding flat_map
  flat_map_in f {a = a} {l = []} {b = b} m k = elim m [ ]
  flat_map_in f {l = x ∷ l} {b = b} (here e) k = append_left (flat_map f l) (subst (λ (y : A). b ∈ f y) e k)
  flat_map_in f {l = x ∷ l} (further m) k = append_right (f x) (flat_map_in f m k)

  -- and back
  pub flat_map_out : (f : A → List B) (l : List A) {b : B} → b ∈ flat_map f l → FlatMapped f l b
  unfolding flat_map
  flat_map_out f [] m = absurd (nil_out m)
  flat_map_out f (x ∷ l) {b} m = go (append_out (f x) m) (λ k. flat_map_out f l k)
    where
      go : (b ∈ f x) ⊎ (b ∈ flat_map f l) → (b ∈ flat_map f l → FlatMapped f l b) → FlatMapped f (x ∷ l) b
      go (inl k) ih = record { source = x; member = here refl; inner = k }
      go (inr k) ih = let r = ih k in record { source = r.source; member = further r.member; inner = r.inner }

-- ---- numbers

-- to split a bound: the last place or below it
pub eq_or_lt : (k n : ℕ) → k < suc n → (k ≡ n) ⊎ (k < n)
eq_or_lt k n h = go (ℕ_discrete k n)
  where
    go : Dec (k ≡ n) → (k ≡ n) ⊎ (k < n)
    go (yes e) = inl e
    go (no d) = inr (omega arith)

-- the numbers below n
pub below_in : (n : ℕ) {k : ℕ} → k < n → k ∈ below n
unfolding below
below_in zero h = absurd (not-suc-le-zero h)
below_in (suc n) {k} h = go (eq_or_lt k n h) (λ l. below_in n l)
  where
    go : (k ≡ n) ⊎ (k < n) → (k < n → k ∈ below n) → k ∈ (n ∷ below n)
    go (inl e) ih = here e
    go (inr l) ih = further (ih l)

-- and back
pub below_out : (n : ℕ) {k : ℕ} → k ∈ below n → k < n
unfolding below
below_out zero m = absurd (nil_out m)
below_out (suc n) (here e) = omega arith
below_out (suc n) {k} (further m) = let h : k < n = below_out n m in omega arith
