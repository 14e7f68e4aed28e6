-- No product of a good front end is a NaN. A difference of finite floats is finite or an infinity, since only two infinities make a NaN
-- of it; and a product of that with a finite gain is no NaN, since only a zero times an infinity makes one, and the gain is above zero.
-- Assumes nothing.
use mathlib.Core.Path.{◌≡◌, refl}
use mathlib.Core.Bool.{Bool, true, false, not, cond, ◌&&◌, beq}
use Prim.Native.Nat.{ℕ, zero, suc, ◌+◌, ◌-◌, ◌*◌, ◌/◌, ◌%◌, ◌^◌, compare}
use native.Mathlib.Omega.{arith}
use lib.Dec.{T, ltb, ltb→lt}
use lib.IntN.{ℤ, pos}
use borrow.Author.Tests.{ne_eqb}
use lib.Ieee as Ieee
use lib.Ieee.{Float, Format, nan, inf, fin, binary32, is_nan, up, down}
use lib.Ieee.Scale.{finite}
use Rattle.std.specs.Float.{float_is_finite}
use Rattle.front.specs.Symbols.{good_gain}
use Rattle.front.proofs.Choices.{cond_in}

-- a float that is no NaN
abbrev Number : Float → Type 0
Number x = T (not (is_nan x))

-- std's test for a finite float is the kit's
pub finite_is : (x : Float) → float_is_finite x ≡ finite x
unfolding float_is_finite
finite_is nan = refl
finite_is (inf s) = refl
finite_is (fin s m e) = refl

-- ---- what rounds is no NaN: each step of the kit's rounding, from the inside out

odd_number : (d : ℕ) (s : Bool) (q k l : ℕ) → Number (Ieee.odd d s q k l)
unfolding Ieee.odd is_nan
odd_number d s zero k l = tt
odd_number d s (suc q) k l = tt

units_number : (f : Format) (s : Bool) (q k : ℕ) → Number (Ieee.units f s q k)
unfolding Ieee.units is_nan
units_number f s q k =
    let fits = ltb (q * 2 ^ k) (2 ^ (Ieee.low f + suc (Ieee.emax f))) in
    let d = suc (Ieee.prec f) in
    cond_in Number fits (Ieee.odd d s q k (Ieee.low f)) (inf s) (λ _. odd_number d s q k (Ieee.low f)) (λ _. tt)

round_number : (f : Format) (s : Bool) (n d : ℕ) → Number (Ieee.round f s n d)
unfolding Ieee.round
round_number f s n d =
    let k = Ieee.size (n * 2 ^ Ieee.low f / d) - Ieee.prec f in
    units_number f s (Ieee.nearest (n * 2 ^ Ieee.low f / (d * 2 ^ k)) (compare (n * 2 ^ Ieee.low f % (d * 2 ^ k) * 2) (d * 2 ^ k))) k

sum_number : (f : Format) (s : Bool) (a : ℕ) (t : Bool) (b c : ℕ) → Number (Ieee.sum f s a t b c)
unfolding Ieee.sum
sum_number f s a t b c =
    let falls = Ieee.round f t (b - a) c in
    let stays = Ieee.round f (s && ltb b a) (a - b) c in
    cond_in Number (beq s t) (Ieee.round f s (a + b) c) (cond (ltb a b) falls stays) (λ _. round_number f s (a + b) c)
    (λ _. cond_in Number (ltb a b) falls stays (λ _. round_number f t (b - a) c) (λ _. round_number f (s && ltb b a) (a - b) c))

-- ---- the two operations

-- for a reading that is multiplied as it is
pub finite_number : (x : Float) → T (finite x) → Number x
unfolding is_nan
finite_number nan h = absurd h
finite_number (inf s) h = absurd h
finite_number (fin s m e) h = tt

-- for a reading less an offset
pub sub_number : (x o : Float) → T (finite x) → T (finite o) → Number (Ieee.sub binary32 x o)
unfolding Ieee.sub Ieee.add Ieee.neg
sub_number nan o hx ho = absurd hx
sub_number (inf s) o hx ho = absurd hx
sub_number (fin s m e) nan hx ho = absurd ho
sub_number (fin s m e) (inf t) hx ho = absurd ho
sub_number (fin s m e) (fin t n d) hx ho = sum_number binary32 s (m * up e * down d) (not t) (n * up d * down e) (down e * down d)

-- a float with no digits is not above zero
zero_not_good : (t : Bool) (e : ℤ) → T (good_gain (fin t zero e)) → ⊥
unfolding Ieee.lt Ieee.of_bits
zero_not_good false e h = omega (arith, ltb→lt (0 * up (pos 0) * down e) (0 * up e * down (pos 0)) h)
zero_not_good true e h = h

-- for the product
pub mul_number : (x g : Float) → Number x → T (good_gain g) → Number (Ieee.mul binary32 x g)
unfolding Ieee.mul is_nan
mul_number nan g hx hg = absurd hx
mul_number (inf s) nan hx hg = absurd hg
mul_number (inf s) (inf t) hx hg = absurd hg
mul_number (inf s) (fin t zero e) hx hg = absurd (zero_not_good t e hg)
mul_number (inf s) (fin t (suc n) e) hx hg = rw (ne_eqb (suc n) 0 (λ z. omega arith)) tt
mul_number (fin s m e) nan hx hg = absurd hg
mul_number (fin s m e) (inf t) hx hg = absurd hg
mul_number (fin s m e) (fin t n d) hx hg = round_number binary32 (Ieee.unlike s t) (m * up e * (n * up d)) (down e * down d)

-- for the products of the code
pub ruleset products = (finite_number, sub_number, mul_number)
