-- keep and sort of a map: to choose or sort the images is to choose or sort by them. So a list sorted by a part of its members,
-- though that order does not tell the members apart, is sorted where the parts are. Assumes nothing.
use mathlib.Core.Path.{◌≡◌, refl, sym}
use mathlib.Core.List.{List, [], ◌∷◌, map}
use mathlib.Core.Bool.{Bool, true, false, cond}
use lib.Dec.{T}
use Rattle.lists.specs.Lists.{keep, insert, sort}
use Rattle.lists.proofs.Membership.{Mapped, map_out}
use Rattle.lists.proofs.Sorted.{Sorted}

module _ {A B : Type 0} (f : A → B) where
  -- for both choices of a test
  map_cond : (b : Bool) (s t : List A) → map f (cond b s t) ≡ cond b (map f s) (map f t)
  map_cond true s t = refl
  map_cond false s t = refl

  -- to choose before the images are made
  pub keep_map : (p : B → Bool) (l : List A) → keep p (map f l) ≡ map f (keep (λ a. p (f a)) l)
  unfolding keep
  keep_map p [] = refl
  keep_map p (x ∷ l) = rw (keep_map p l) (sym (map_cond (p (f x)) (x ∷ keep (λ a. p (f a)) l) (keep (λ a. p (f a)) l)))

  module _ (less : B → B → Bool) where
    -- the order of the images
    abbrev pub by_image : A → A → Bool
    by_image a b = less (f a) (f b)

    -- to insert before the images are made
    insert_map : (a : A) (l : List A) → insert less (f a) (map f l) ≡ map f (insert by_image a l)
    unfolding insert
    insert_map a [] = refl
    insert_map a (x ∷ l) = rw (insert_map a l) (sym (map_cond (by_image a x) (a ∷ x ∷ l) (x ∷ insert by_image a l)))

    -- to sort before the images are made
    pub sort_map : (l : List A) → sort less (map f l) ≡ map f (sort by_image l)
    unfolding sort
    sort_map [] = refl
    sort_map (x ∷ l) = rw (sort_map l) (insert_map x (sort by_image l))

    -- a list sorted by its images has sorted images
    pub map_sorted : (l : List A) → Sorted by_image l → Sorted less (map f l)
    map_sorted [] s = tt
    map_sorted (x ∷ l) s = (λ b m. go b (map_out f l m), map_sorted l s.1)
      where
        go : (b : B) → Mapped f l b → T (less (f x) b)
        go b r = rw r.equal (s.0 r.source r.member)
