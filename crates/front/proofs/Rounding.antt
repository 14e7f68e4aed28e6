-- The rounding's meaning, `nearest`, in the three ranges of the exponent's field that the code tells apart. Below 126 the product is less
-- than a half, from 134 on it is 128 or more, and between them 2 ^ (150 - field) parts of the significand make 1, so that the remainder
-- tells up from down. Assumes nothing.
use mathlib.Core.Path.{◌≡◌, sym, ap, ◌∙◌}
use Prim.Native.Nat.{ℕ, ◌+◌, ◌-◌, ◌*◌, ◌/◌, ◌%◌, ◌^◌, ◌≤◌, ◌<◌}
use native.Mathlib.Nat.{mul_left_comm, mul_assoc, add-mul, mul-le-mul, mul-le-mul_left, mul-div-mul_right, mod-lt, div-add-mod'}
use native.Mathlib.Nat.{div-eq_of_lt, div-eq_of_lt-le, le-div_iff_mul-le, max-eq_right, max-le}
use native.Mathlib.Nat.{le_refl, le_trans, lt_of_le_of_lt, add-le-add}
use native.Mathlib.Omega.{arith}
use lib.Dec.{eqb, lit<, lit≤}
use borrow.Author.Tests.{ne_eqb}
use lib.Pow.{pow-add, pow_pos, pow_mono}
use Rattle.front.specs.Rounding.{field, significand, exponent, parts, nearest}
use Rattle.front.proofs.Choices.{cond_in}

-- ---- halves upwards, by the remainder

module _ (s u : ℕ) (positive : 0 < u) where
  -- the remainder is a half or more
  upwards : u ≤ 2 * (s % u) → (2 * s + u) / (2 * u) ≡ s / u + 1
  upwards half =
      let split = div-add-mod' s u in
      let twice = mul_left_comm (s / u) 2 u in
      let below = mod-lt s positive in
      let next = add-mul (s / u) 1 (2 * u) in
      div-eq_of_lt-le (2 * u) (omega arith) (omega (arith, add-mul (s / u + 1) 1 (2 * u)))

  -- it is less than a half
  downwards : 2 * (s % u) < u → (2 * s + u) / (2 * u) ≡ s / u
  downwards half =
      let split = div-add-mod' s u in
      let twice = mul_left_comm (s / u) 2 u in
      div-eq_of_lt-le (2 * u) (omega arith) (omega (arith, add-mul (s / u) 1 (2 * u)))

-- ---- the three ranges

-- the digits behind their leading one
abbrev pub led : ℕ → ℕ
led bits = 2 ^ 23 + bits % 2 ^ 23

-- for every float that is no subnormal
led_parts : (bits : ℕ) → 0 < field bits → parts bits ≡ led bits * 2 ^ field bits
led_parts bits h = rw (ne_eqb (field bits) 0 (λ e. omega arith), max-eq_right {n = 1} {m = field bits} (omega arith))

-- without a leading one the significand is smaller still
significand_below : (bits : ℕ) → significand bits ≤ 2 ^ 24 - 1
significand_below bits = cond_in (λ (n : ℕ). n ≤ 2 ^ 24 - 1) (eqb (field bits) 0) (bits % 2 ^ 23) (led bits) (λ _. omega arith) (λ _. omega arith)

-- less than a half. (omega takes no number of more than 38 digits, so here and below the powers are compared by computing, and
-- cancelled by a law over any number.)
pub small : (bits : ℕ) → field bits < 126 → nearest bits ≡ 0
unfolding nearest
small bits h =
    let early : exponent bits ≤ 125 = max-le {a = 1} (omega arith) (omega arith) in
    let most : parts bits ≤ (2 ^ 24 - 1) * 2 ^ 125 = mul-le-mul (significand_below bits) (pow_mono early) in
    div-eq_of_lt (lt_of_le_of_lt (add-le-add (mul-le-mul_left 2 most) (le_refl (2 ^ 150))) (lit< tt))

-- past the end
pub large : (bits : ℕ) → 133 < field bits → 127 ≤ nearest bits
unfolding nearest
large bits h =
    let leading : 2 ^ 23 ≤ led bits = omega arith in
    let least : 2 ^ 23 * 2 ^ 134 ≤ parts bits = rw (led_parts bits (omega arith)) (mul-le-mul leading (pow_mono h)) in
    (le-div_iff_mul-le {k = 2 ^ 151} (lit< tt)).1 (le_trans (lit≤ tt) (add-le-add (mul-le-mul_left 2 least) (le_refl (2 ^ 150))))

-- to count in parts of the significand, and not of the float
cancel : (l u p n : ℕ) → 0 < p → u * p ≡ n → (2 * (l * p) + n) / (2 * n) ≡ (2 * l + u) / (2 * u)
cancel l u p n positive unit =
    rw (← unit, ← mul_assoc 2 l p, ← mul_assoc 2 u p, ← add-mul (2 * l) u p) (mul-div-mul_right (2 * l + u) (2 * u) positive)

-- how many parts of the significand make 1
abbrev pub one : ℕ → ℕ
one bits = 2 ^ (150 - field bits)

-- the same as the machine has it, by a shift of a word: at most 24 places, so it drops nothing
abbrev pub shifted : ℕ → ℕ
shifted bits = 1 * 2 ^ (150 - field bits) % 2 ^ 32

exact : (bits : ℕ) → 126 ≤ field bits → shifted bits ≡ one bits
exact bits h =
    let few : 150 - field bits ≤ 24 = omega arith in
    let most : one bits ≤ 2 ^ 24 = pow_mono few in
    omega arith

-- between the two: what the code does with the remainder
module _ (bits : ℕ) (low : 126 ≤ field bits) (high : field bits ≤ 133) where
  scaled : nearest bits ≡ (2 * led bits + one bits) / (2 * one bits)
  unfolding nearest
  scaled =
      let whole : 150 - field bits + field bits ≡ 150 = omega arith in
      let unit : one bits * 2 ^ field bits ≡ 2 ^ 150 = sym (pow-add 2 (150 - field bits) (field bits)) ∙ ap (λ (k : ℕ). 2 ^ k) whole in
      rw (led_parts bits (omega arith)) (cancel (led bits) (one bits) (2 ^ field bits) (2 ^ 150) (pow_pos (field bits)) unit)

  pub up : shifted bits ≤ 2 * (led bits % shifted bits) → nearest bits ≡ led bits / shifted bits + 1
  up = rw (exact bits low) (λ half. scaled ∙ upwards (led bits) (one bits) (pow_pos (150 - field bits)) half)

  pub down : 2 * (led bits % shifted bits) < shifted bits → nearest bits ≡ led bits / shifted bits
  down = rw (exact bits low) (λ half. scaled ∙ downwards (led bits) (one bits) (pow_pos (150 - field bits)) half)

-- for the code's three ranges
pub ruleset ranges = (small, large, up, down)
