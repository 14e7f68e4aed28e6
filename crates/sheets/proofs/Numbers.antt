-- Numbers read off bytes: from a place on, written again, below a power of 256, and as the library reads and gives them. Assumes nothing.
use mathlib.Core.Path.{◌≡◌, refl, sym, ap, ap₂, ◌∙◌}
use mathlib.Core.List.{List, [], ◌∷◌, ◌++◌}
use Prim.Native.Nat.{ℕ, zero, suc, ◌+◌, ◌*◌, ◌/◌, ◌%◌, ◌^◌, ◌≤◌, ◌<◌}
use native.Mathlib.Nat.{add-zero, pow-suc, div-div-eq-div-mul}
use native.Mathlib.Numerals.{add-one}
use native.Mathlib.Omega.{arith}
use lib.ListN.{length, get_or, take, drop}
use lib.Seq.{drop-cons, get_or-take, get_or-drop, sets}
use Rattle.std.specs.Int.{w16, w32, from_le_bytes, to_le_bytes}
use Rattle.sheets.specs.Bytes.{bytes_of, number_at}

-- every member of a list of bytes is one: what a slice of bytes gives
abbrev pub Bytes : List ℕ → Type 0
Bytes l = (i : ℕ) → get_or l i 0 < 256

-- for a part of the bytes: a number is read off what stands from its place on
pub number_at_drop : (width at k : ℕ) (l : List ℕ) → number_at width (k + at) l ≡ number_at width at (drop k l)
unfolding number_at
number_at_drop zero at k l = refl
number_at_drop (suc width) at k l =
    let e : suc (k + at) ≡ k + suc at = omega arith in
    ap₂ (λ (x y : ℕ). x + 256 * y) (sym (get_or-drop k l at 0)) (ap (λ (j : ℕ). number_at width j l) e ∙ number_at_drop width (suc at) k l)

-- for the form: a number's bytes are those of the number that they say
pub number_stands : (l : List ℕ) → Bytes l → (width at : ℕ) → at + width ≤ length l → drop at l ≡ bytes_of width (number_at width at l) ++ drop (at + width) l
unfolding number_at bytes_of
number_stands l b zero at h = let e : at ≡ at + 0 = omega arith in ap (λ (k : ℕ). drop k l) e
number_stands l b (suc width) at h =
    let n : ℕ = number_at width (suc at) l in
    let low : get_or l at 0 ≡ (get_or l at 0 + 256 * n) % 256 = omega (arith, b at) in
    let high : n ≡ (get_or l at 0 + 256 * n) / 256 = omega (arith, b at) in
    let e : suc at + width ≡ at + suc width = omega arith in
    drop-cons l at 0 (omega arith)
    ∙ ap₂ (λ (x : ℕ) (t : List ℕ). x ∷ t) low (number_stands l b width (suc at) (omega arith) ∙ ap₂ (λ (x k : ℕ). bytes_of width x ++ drop k l) high e)

-- a number in so many bytes is below 256 to that power
pub number_at_below : (l : List ℕ) → Bytes l → (width at : ℕ) → number_at width at l < 256 ^ width
unfolding number_at
number_at_below l b zero at = omega arith
number_at_below l b (suc width) at = omega (arith, b at, number_at_below l b width (suc at), pow-suc 256 width)

-- ---- as the library reads and gives a number's bytes

-- a byte of those from a place on
byte_from : (n at i : ℕ) (l : List ℕ) → i < n → get_or (take n (drop at l)) i 0 ≡ get_or l (at + i) 0
byte_from n at i l h = get_or-take n (drop at l) i 0 h ∙ get_or-drop at l i 0

-- two of them are a number of 16 bits
pub two_read : (l : List ℕ) (at : ℕ) {n : ℕ} {b : List ℕ} → n ≡ from_le_bytes w16 b → b ≡ take 2 (drop at l) → n ≡ number_at 2 at l
unfolding number_at
two_read l at {b = b} e h =
    let first : get_or b 0 0 ≡ get_or l at 0 = rw (h, byte_from 2 at 0 l (omega arith), add-zero) refl in
    let second : get_or b 1 0 ≡ get_or l (suc at) 0 = rw (h, byte_from 2 at 1 l (omega arith), add-one) refl in
    omega (arith, e, first, second)

-- four of them are one of 32 bits
pub four_read : (l : List ℕ) (at : ℕ) {n : ℕ} {b : List ℕ} → n ≡ from_le_bytes w32 b → b ≡ take 4 (drop at l) → n ≡ number_at 4 at l
unfolding number_at
four_read l at {b = b} e h =
    let place : (i j : ℕ) → i < 4 → at + i ≡ j → get_or b i 0 ≡ get_or l j 0 =
    λ i j k q. ap (λ (t : List ℕ). get_or t i 0) h ∙ byte_from 4 at i l k ∙ ap (λ (m : ℕ). get_or l m 0) q in
    omega (
      arith,
      e,
      place 0 at (omega arith) (omega arith),
      place 1 (suc at) (omega arith) (omega arith),
      place 2 (suc (suc at)) (omega arith) (omega arith),
      place 3 (suc (suc (suc at))) (omega arith) (omega arith),
    )

-- and back
pub two_given : (n : ℕ) → to_le_bytes w16 n ≡ bytes_of 2 n
unfolding bytes_of
two_given n = refl

pub four_given : (n : ℕ) → to_le_bytes w32 n ≡ bytes_of 4 n
unfolding bytes_of
four_given n =
    let third : n / 65536 % 256 ≡ n / 256 / 256 % 256 = rw (div-div-eq-div-mul n 256 256) refl in
    let fourth : n / 16777216 % 256 ≡ n / 256 / 256 / 256 % 256 = rw (div-div-eq-div-mul n 256 256, div-div-eq-div-mul n 65536 256) refl in
    λ z. n % 256 ∷ n / 256 % 256 ∷ third z ∷ fourth z ∷ []

-- what a program puts of them
pub two_put : (n at : ℕ) (l : List ℕ) {b k : List ℕ} → b ≡ to_le_bytes w16 n → k ≡ sets l at b → k ≡ sets l at (bytes_of 2 n)
two_put n at l e h = h ∙ ap (sets l at) (e ∙ two_given n)

pub four_put : (n at : ℕ) (l : List ℕ) {b k : List ℕ} → b ≡ to_le_bytes w32 n → k ≡ sets l at b → k ≡ sets l at (bytes_of 4 n)
four_put n at l e h = h ∙ ap (sets l at) (e ∙ four_given n)
