-- Laws of the register: powers of the memory fit, the state stays a state, and the shared ones are counted pair by pair.
-- Assumes nothing.
use mathlib.Core.Path.{◌≡◌, ap}
use Prim.Native.Nat.{ℕ, zero, suc, ◌+◌, ◌*◌, ◌/◌, ◌%◌, ◌^◌, ◌<◌, ◌≤◌, min}
use native.Mathlib.Omega.{arith}
use lib.Bits.{bit_and, and_step, and_zero_l}
use lib.Count.{ones, ones_in, ones_step}
use lib.Pow.{pow-add, shl_exact}
use Rattle.codes.specs.Limits.{most_memory}
use Rattle.codes.specs.Codes.{next_state}

-- ---- powers

-- for the greatest generator: the shift cuts nothing, it gives 2^(m+1)
pub shifted : (m : ℕ) → m ≤ most_memory → (2 * 2 ^ m) % 2 ^ 32 ≡ 2 ^ (m + 1)
shifted m h = omega (arith, shl_exact {a = 2} 2 m 32 (omega arith) (omega arith), pow-add 2 m 1)

-- for products with a bit: a bit takes a number once or not at all
pub bit_times : (b x : ℕ) → b ≤ 1 → b * x ≤ x
bit_times zero x h = omega arith
bit_times (suc zero) x h = omega arith
bit_times (suc (suc b)) x h = absurd (omega arith)

-- ---- the state

-- for the encoder's loop: a state below 2^m is followed by a state below 2^m
pub next_below : (m b s : ℕ) → b ≤ 1 → s < 2 ^ m → next_state m b s < 2 ^ m
next_below m b s hb hs = omega (arith, bit_times b (2 ^ m) hb)

-- ---- the output bit

-- the lesser of two bits is their product, a bit
bits_and : (a b : ℕ) → a ≤ 1 → b ≤ 1 → (min a b ≡ a * b) × (a * b ≤ 1)
bits_and zero b ha hb = (omega arith, omega arith)
bits_and (suc zero) b ha hb = (omega arith, omega arith)
bits_and (suc (suc a)) b ha hb = absurd (omega arith)

-- for the walk's arithmetic: the product of two low bits is a bit
pub pair_small : (r g : ℕ) → (r % 2) * (g % 2) ≤ 1
pair_small r g = (bits_and (r % 2) (g % 2) (omega arith) (omega arith)).1

-- for the walk's next turn: the low pair is taken off
pub shared_step : (r g : ℕ) → ones (bit_and r g) ≡ (r % 2) * (g % 2) + ones (bit_and (r / 2) (g / 2))
shared_step r g =
    let p = bits_and (r % 2) (g % 2) (omega arith) (omega arith) in
    let half : bit_and r g / 2 ≡ bit_and (r / 2) (g / 2) = omega (arith, and_step r g, p.0, p.1) in
    let low : bit_and r g % 2 ≡ (r % 2) * (g % 2) = omega (arith, and_step r g, p.0, p.1) in
    omega (arith, ones_step (bit_and r g), ap ones half)

-- for the walk's end: nothing is left
pub shared_none : (r g : ℕ) → r ≤ 0 → ones (bit_and r g) ≡ 0
unfolding ones ones_in
shared_none zero g h = rw (and_zero_l g)
shared_none (suc r) g h = absurd (omega arith)
