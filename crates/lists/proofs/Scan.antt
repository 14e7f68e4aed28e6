-- What a test of all the members of a list says of one place. Assumes nothing.
use mathlib.Core.Path.{◌≡◌}
use mathlib.Core.List.{List, [], ◌∷◌}
use mathlib.Core.Bool.{Bool, true}
use Prim.Native.Nat.{ℕ, zero, suc, ◌<◌}
use native.Mathlib.Nat.{le_of_suc-le-suc}
use native.Mathlib.Omega.{arith}
use lib.ListN.{length, get_or}
use Rattle.lists.specs.Lists.{all}
use Rattle.lists.proofs.Tests.{both}

module _ {A : Type 0} (p : A → Bool) where
  -- the first apart
  all_cons : (x : A) (l : List A) → all p (x ∷ l) ≡ true → (p x ≡ true) × (all p l ≡ true)
  unfolding all
  all_cons x l h = both (p x) (all p l) h

  -- for a read within the list
  pub all_within : (l : List A) (d : A) (i : ℕ) → i < length l → all p l ≡ true → p (get_or l i d) ≡ true
  all_within [] d i h k = absurd (omega arith)
  all_within (x ∷ l) d zero h k = (all_cons x l k).0
  all_within (x ∷ l) d (suc i) h k = all_within l d i (le_of_suc-le-suc h) (all_cons x l k).1

  -- for a read at any place: past the end stands a default that passes too
  pub all_get_or : (l : List A) (d : A) (i : ℕ) → p d ≡ true → all p l ≡ true → p (get_or l i d) ≡ true
  all_get_or [] d i h k = h
  all_get_or (x ∷ l) d zero h k = (all_cons x l k).0
  all_get_or (x ∷ l) d (suc i) h k = all_get_or l d i h (all_cons x l k).1
