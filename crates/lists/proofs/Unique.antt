-- Lists without repeats: which operations keep them so, and that their members fix their length.
-- Making each element come once, by a test, is in Distinct. Assumes nothing.
use mathlib.Core.Path.{◌≡◌, refl, sym, ap, ◌∙◌}
use mathlib.Core.Logic.{◌⊎◌, inl, inr}
use mathlib.Core.List.{List, [], ◌∷◌, ◌++◌, map, flat_map}
use mathlib.Core.Bool.{Bool}
use Prim.Native.Nat.{ℕ, zero, suc, ◌≤◌, ◌<◌}
use native.Mathlib.Nat.{le_antisymm}
use native.Mathlib.Omega.{arith}
use lib.Dec.{T}
use lib.ListN.{length}
use Rattle.lists.specs.Lists.{keep, below}
use Rattle.lists.proofs.Tests.{test}
use Rattle.lists.proofs.Membership.{◌∈◌, here, further, append_out, member_cast, Within, keep_yes, keep_no, keep_out, below_out}
use Rattle.lists.proofs.Membership.{Mapped, map_out, FlatMapped, flat_map_out}

module _ {A : Type 0} where
  -- no element twice
  abbrev pub Unique : List A → Type 0
  Unique [] = Unit {0}
  Unique (x ∷ xs) = (x ∈ xs → ⊥) × Unique xs

  -- two lists that share no member
  pub append_unique : (s t : List A) → Unique s → Unique t → ((a : A) → a ∈ s → a ∈ t → ⊥) → Unique (s ++ t)
  append_unique [] t u v apart = v
  append_unique (x ∷ s) t u v apart = (λ m. go (append_out s m), append_unique s t u.1 v (λ a m k. apart a (further m) k))
    where
      go : (x ∈ s) ⊎ (x ∈ t) → ⊥
      go (inl m) = u.0 m
      go (inr m) = apart x (here refl) m

  -- a choice of members
  pub keep_unique : (p : A → Bool) (l : List A) → Unique l → Unique (keep p l)
  unfolding keep
  keep_unique p [] u = tt
  keep_unique p (x ∷ l) u = go (test (p x)) (keep_unique p l u.1)
    where
      go : Dec (T (p x)) → Unique (keep p l) → Unique (keep p (x ∷ l))
      go (yes t) ih = rw (keep_yes p x l t) (λ m. u.0 (keep_out p l m).member, ih)
      go (no t) ih = rw (keep_no p x l t) ih

  -- ---- length

  -- the list without the member that m points at
  without : {a : A} (l : List A) → a ∈ l → List A
  without {a = a} [] m = elim m [ ]
  without (x ∷ xs) (here e) = xs
  without (x ∷ xs) (further m) = x ∷ without xs m

  -- it is one shorter
  length_without : {a : A} (l : List A) (m : a ∈ l) → length l ≡ suc (length (without l m))
  unfolding without
  length_without {a = a} [] m = elim m [ ]
  length_without (x ∷ xs) (here e) = refl
  length_without (x ∷ xs) (further m) = ap suc (length_without xs m)

  -- and has every other member
  without_in : {a b : A} (l : List A) (m : a ∈ l) → (b ≡ a → ⊥) → b ∈ l → b ∈ without l m
  unfolding without
  without_in {a = a} {b = b} [] m d _ = elim m [ ]
  without_in (x ∷ xs) (here e) d (here f) = absurd (d (f ∙ sym e))
  without_in (x ∷ xs) (here e) d (further n) = n
  without_in (x ∷ xs) (further m) d (here f) = here f
  without_in (x ∷ xs) (further m) d (further n) = further (without_in xs m d n)

  -- to bound how many there are
  pub length_within : (s t : List A) → Unique s → Within s t → length s ≤ length t
  length_within [] t u w = omega arith
  length_within (x ∷ s) t u w =
      let m : x ∈ t = w x (here refl) in
      let ih : length s ≤ length (without t m) =
      length_within s (without t m) u.1 (λ a k. without_in t m (λ e. u.0 (member_cast (sym e) k)) (w a (further k))) in
      omega (arith, length_without t m)

  -- to count by members alone
  pub same_length : (s t : List A) → Unique s → Unique t → Within s t → Within t s → length s ≡ length t
  same_length s t u v st ts = le_antisymm (length_within s t u st) (length_within t s v ts)

module _ {A B : Type 0} where
  -- different members have different images
  pub map_unique : (f : A → B) (l : List A) → ((a b : A) → a ∈ l → b ∈ l → f a ≡ f b → a ≡ b) → Unique l → Unique (map f l)
  map_unique f [] inj u = tt
  map_unique f (x ∷ l) inj u = (λ m. go (map_out f l m), map_unique f l (λ a b m n. inj a b (further m) (further n)) u.1)
    where
      go : Mapped f l (f x) → ⊥
      go r = u.0 (member_cast (inj x r.source (here refl) (further r.member) r.equal) r.member)

  -- the lists are without repeats, and no two of them share a member
  pub flat_map_unique : (f : A → List B) (l : List A) → ((a : A) → Unique (f a)) → ((a b : A) (c : B) → c ∈ f a → c ∈ f b → a ≡ b) → Unique l
      → Unique (flat_map f l)
  unfolding flat_map
  flat_map_unique f [] each apart u = tt
  flat_map_unique f (x ∷ l) each apart u =
      append_unique (f x) (flat_map f l) (each x) (flat_map_unique f l each apart u.1) (λ c m n. go c m (flat_map_out f l n))
    where
      go : (c : B) → c ∈ f x → FlatMapped f l c → ⊥
      go c m r = u.0 (member_cast (apart x r.source c m r.inner) r.member)

-- the numbers below n
pub below_unique : (n : ℕ) → Unique (below n)
unfolding below
below_unique zero = tt
below_unique (suc n) = (λ m. let h : n < n = below_out n m in omega arith, below_unique n)
