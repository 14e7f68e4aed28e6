-- The elements of a list by their places: the element at a place, where a member stands, that a list whose places differ has no
-- repeats, and that a sorted list rises with its places. Assumes nothing.
use mathlib.Core.Path.{◌≡◌, refl, sym}
use mathlib.Core.List.{List, [], ◌∷◌, map}
use mathlib.Core.Bool.{Bool}
use Prim.Native.Nat.{ℕ, zero, suc, ◌<◌}
use native.Mathlib.Nat.{suc_inj, le_of_suc-le-suc}
use native.Mathlib.Omega.{arith}
use lib.Dec.{T}
use lib.ListN.{length, get_or}
use Rattle.lists.proofs.Membership.{◌∈◌, here, further, map_out, Mapped}
use Rattle.lists.proofs.Unique.{Unique}
use Rattle.lists.proofs.Sorted.{Sorted}

module _ {A : Type 0} where
  -- for tables: within a list the default is never read
  pub get_or_within : (l : List A) (i : ℕ) (d e : A) → i < length l → get_or l i d ≡ get_or l i e
  get_or_within [] i d e h = absurd (omega arith)
  get_or_within (x ∷ l) zero d e h = refl
  get_or_within (x ∷ l) (suc i) d e h = get_or_within l i d e (le_of_suc-le-suc h)

module _ {A : Type 0} (d : A) where
  -- a member stands here
  pub record Place (l : List A) (a : A) : Type 0 where
    pub index : ℕ
    pub within : index < length l
    pub equal : get_or l index d ≡ a

  -- to go from a member to its place
  pub place_out : (l : List A) {a : A} → a ∈ l → Place l a
  place_out [] {a = a} m = elim m [ ]
  place_out (x ∷ l) (here e) = record { index = 0; within = omega arith; equal = sym e }
  place_out (x ∷ l) (further m) = let r = place_out l m in record { index = suc r.index; within = omega (arith, r.within); equal = r.equal }

  -- and back
  pub place_in : (l : List A) (i : ℕ) → i < length l → get_or l i d ∈ l
  place_in [] i h = absurd (omega arith)
  place_in (x ∷ l) zero h = here refl
  place_in (x ∷ l) (suc i) h = further (place_in l i (omega arith))

  -- to show that no image comes twice
  pub places_unique : {B : Type 0} (f : A → B) (l : List A)
      → ((i k : ℕ) → i < length l → k < length l → f (get_or l i d) ≡ f (get_or l k d) → i ≡ k) → Unique (map f l)
  places_unique f [] apart = tt
  places_unique f (x ∷ l) apart =
      ((λ m. go (map_out f l m)), places_unique f l (λ i k h g e. suc_inj (apart (suc i) (suc k) (omega arith) (omega arith) e)))
    where
      go : Mapped f l (f x) → ⊥
      go r =
          let p = place_out l r.member in
          let e : 0 ≡ suc p.index = apart 0 (suc p.index) (omega arith) (omega (arith, p.within)) (cc (r.equal, p.equal)) in
          omega arith

  -- for a sorted list: a later place has a later element
  pub sorted_places : (less : A → A → Bool) (l : List A) → Sorted less l → (i k : ℕ) → i < k → k < length l → T (less (get_or l i d) (get_or l k d))
  sorted_places less [] s i k h w = absurd (omega arith)
  sorted_places less (x ∷ l) s i zero h w = absurd (omega arith)
  sorted_places less (x ∷ l) s zero (suc k) h w = s.0 (get_or l k d) (place_in l k (le_of_suc-le-suc w))
  sorted_places less (x ∷ l) s (suc i) (suc k) h w = sorted_places less l s.1 i k (le_of_suc-le-suc h) (le_of_suc-le-suc w)
