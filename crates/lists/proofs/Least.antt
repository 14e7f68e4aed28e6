-- The least of a list: no member is below it, and where there is a member it is one. Assumes nothing.
use mathlib.Core.Path.{◌≡◌, refl}
use mathlib.Core.List.{List, [], ◌∷◌}
use Prim.Native.Nat.{ℕ, ◌≤◌, min}
use native.Mathlib.Decide.{dec_le}
use native.Mathlib.Omega.{arith}
use Rattle.lists.specs.Lists.{least}
use Rattle.lists.proofs.Membership.{◌∈◌, here, further, member_cast}

-- no member is below it
pub least_le : (l : List ℕ) {a : ℕ} → a ∈ l → least l ≤ a
unfolding least
least_le [] {a = a} m = elim m [ ]
least_le (x ∷ []) {a = a} (further m) = elim m [ ]
least_le (x ∷ []) (here e) = omega arith
least_le (x ∷ y ∷ l) (here e) = omega arith
least_le (x ∷ y ∷ l) {a} (further m) = let h : least (y ∷ l) ≤ a = least_le (y ∷ l) m in omega arith

-- of a list that is not empty
least_cons : (x : ℕ) (l : List ℕ) → least (x ∷ l) ∈ (x ∷ l)
unfolding least
least_cons x [] = here refl
least_cons x (y ∷ l) = go (dec_le x (least (y ∷ l))) (least_cons y l)
  where
    go : Dec (x ≤ least (y ∷ l)) → least (y ∷ l) ∈ (y ∷ l) → min x (least (y ∷ l)) ∈ (x ∷ y ∷ l)
    go (yes h) ih = let e : min x (least (y ∷ l)) ≡ x = omega arith in here e
    go (no h) ih = let e : min x (least (y ∷ l)) ≡ least (y ∷ l) = omega arith in further (member_cast e ih)

-- it is attained
pub least_of : {l : List ℕ} {a : ℕ} → a ∈ l → least l ∈ l
least_of {l = []} {a = a} m = elim m [ ]
least_of {l = x ∷ l} m = least_cons x l
