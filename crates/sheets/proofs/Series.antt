-- Laws of f 0, f 1, .., f (n - 1): its length, its places, when two are equal, that bytes which hold it place by place hold it, and a loop
-- that writes it. Assumes nothing.
use mathlib.Core.Path.{◌≡◌, refl, sym, ap, ap₂, ◌∙◌}
use mathlib.Core.List.{List, ◌∷◌, ◌++◌}
use Prim.Native.Nat.{ℕ, zero, suc, ◌+◌, ◌≤◌, ◌<◌}
use native.Mathlib.Nat.{le_of_suc-le-suc}
use native.Mathlib.Omega.{arith}
use lib.ListN.{length, get_or, set, drop, get_or-eq_default}
use lib.Seq.{drop-cons, sets}
use Rattle.lists.proofs.Writing.{Filling, filling_next, filling_done}
use Rattle.sheets.specs.Bytes.{series}

module _ {A : Type 0} where
  -- as long as was said
  pub length_series : (n : ℕ) (f : ℕ → A) → length (series n f) ≡ n
  unfolding series
  length_series zero f = refl
  length_series (suc n) f = ap suc (length_series n (λ i. f (suc i)))

  -- to read a place, and past the end
  pub get_or_series : (n : ℕ) (f : ℕ → A) (i : ℕ) (d : A) → i < n → get_or (series n f) i d ≡ f i
  unfolding series
  get_or_series zero f i d h = absurd (omega arith)
  get_or_series (suc n) f zero d h = refl
  get_or_series (suc n) f (suc i) d h = get_or_series n (λ i. f (suc i)) i d (le_of_suc-le-suc h)

  pub get_or_series_past : (n : ℕ) (f : ℕ → A) (i : ℕ) (d : A) → n ≤ i → get_or (series n f) i d ≡ d
  get_or_series_past n f i d h = get_or-eq_default (series n f) d (omega (arith, length_series n f))

  -- to change f
  pub series_same : (n : ℕ) (f g : ℕ → A) → ((i : ℕ) → i < n → f i ≡ g i) → series n f ≡ series n g
  unfolding series
  series_same zero f g h = refl
  series_same (suc n) f g h = ap₂ (λ (x : A) (l : List A). x ∷ l) (h 0 (omega arith))
      (series_same n (λ i. f (suc i)) (λ i. g (suc i)) (λ i k. h (suc i) (omega arith)))

  -- to find it in a longer list: every place holds what it should
  pub series_stands : (l : List A) (n : ℕ) (f : ℕ → A) (at : ℕ) (d : A) → at + n ≤ length l → ((i : ℕ) → i < n → get_or l (at + i) d ≡ f i)
      → drop at l ≡ series n f ++ drop (at + n) l
  unfolding series
  series_stands l zero f at d fits h = let e : at ≡ at + 0 = omega arith in ap (λ (k : ℕ). drop k l) e
  series_stands l (suc n) f at d fits h =
      let here : get_or l at d ≡ f 0 = let e : at ≡ at + 0 = omega arith in ap (λ (k : ℕ). get_or l k d) e ∙ h 0 (omega arith) in
      let rest : drop (suc at) l ≡ series n (λ i. f (suc i)) ++ drop (suc at + n) l =
      series_stands l n (λ i. f (suc i)) (suc at) d (omega arith)
      (λ i k. (let e : suc at + i ≡ at + suc i = omega arith in ap (λ (j : ℕ). get_or l j d) e) ∙ h (suc i) (omega arith)) in
      let e : suc at + n ≡ at + suc n = omega arith in
      drop-cons l at d (omega arith) ∙ ap₂ (λ (x : A) (t : List A). x ∷ t) here (rest ∙ ap (λ (k : ℕ). series n (λ i. f (suc i)) ++ drop k l) e)

  module _ (n : ℕ) (f : ℕ → A) {first : List A} {at : ℕ} {l : List A} {j : ℕ} where
    -- for a loop that writes f j at its turn j
    pub series_filled : (d : A) {x : A} → x ≡ f j → j < n → Filling first (series n f) at l j → Filling first (series n f) at (set l (at + j) x) (j + 1)
    series_filled d e h w = rw (e ∙ sym (get_or_series n f j d h)) (filling_next d (omega (arith, length_series n f)) w)

    -- and its end
    pub series_written : n ≤ j → Filling first (series n f) at l j → l ≡ sets first at (series n f)
    series_written h w = filling_done (omega (arith, length_series n f)) w
