-- What the rounding reads off a float's bits is the float: its sign, and its distance from zero, parts of which a unit make 1, in the
-- kit's own account of IEEE 754. `HasValue x s a c` says there that x is finite, has the sign s, and is a / c in size. So of
-- specs/Rounding.antt only `nearest` and `rounded` are left to be believed. The kit counts in the smallest float, 2 ^ -149, and a part
-- is half of that. Assumes nothing.
use mathlib.Core.Path.{◌≡◌, refl, sym, ap, ◌∙◌, subst}
use mathlib.Core.Bool.{Bool, true, false, cond}
use Prim.Native.Nat.{ℕ, zero, suc, ◌+◌, ◌*◌, ◌%◌, ◌/◌, ◌^◌, max}
use native.Mathlib.Nat.{mul_assoc, mul_right_comm, mul-one, max-eq_right}
use native.Mathlib.Numerals.{add-one}
use native.Mathlib.Omega.{arith}
use lib.Dec.{T, eqb, eqb-suc-zero}
use lib.Pow as Pow
use lib.Pow.{pow-add}
use lib.IntN.{pos, neg_ℤ}
use lib.Ieee as Ieee
use lib.Ieee.{Float, nan, inf, fin, binary32, up, down}
use lib.Ieee.Bits.{of_bits-to_bits}
use lib.Ieee.Exact.{HasValue, odd_sign}
use lib.Ieee.Scale.{finite}
use Rattle.front.specs.Limits.{furthest}
use Rattle.front.specs.Rounding.{negative, field, parts, unit, nearest, rounded}

-- twice as many of half the size
halved : (x : Float) (s : Bool) (a c : ℕ) → HasValue x s a c → HasValue x s (a * 2) (c * 2)
halved nan s a c v = v
halved (inf t) s a c v = v
halved (fin t m e) s a c v = (v.0, rw (← mul_assoc (m * up e) c 2, v.1) (mul_right_comm a (down e) 2))

-- what the kit makes of a sign, an exponent's field and the digits
fields : (s : Bool) (x t : ℕ) → T (finite (Ieee.of_fields binary32 s x t))
    → HasValue (Ieee.of_fields binary32 s x t) s (cond (eqb x 0) t (2 ^ 23 + t) * 2 ^ max 1 x) (2 ^ 150)
unfolding Ieee.of_fields
fields s zero t h = rw (mul-one t) at (halved (Ieee.odd 24 s t 0 149) s (t * 2 ^ 0) (2 ^ 149) (odd_sign 24 s t 0 149))
fields s (suc x) t h =
    let led = 2 ^ 23 + t in
    let doubled : 2 ^ x * 2 ≡ 2 ^ suc x = sym (pow-add 2 x 1) ∙ ap (λ (k : ℕ). 2 ^ k) (add-one x) in
    let grown : led * 2 ^ x * 2 ≡ led * 2 ^ suc x = mul_assoc led (2 ^ x) 2 ∙ ap (λ (p : ℕ). led * p) doubled in
    rw (eqb-suc-zero x, max-eq_right {n = 1} {m = suc x} (omega arith), ← grown) (ordinary (eqb (suc x) 255) (eqb t 0) h)
  where
    -- the highest field has no finite float
    ordinary : (last none : Bool) → T (finite (cond last (cond none (inf s) nan) (Ieee.odd 24 s (2 ^ 23 + t) x 149)))
        → HasValue (cond last (cond none (inf s) nan) (Ieee.odd 24 s (2 ^ 23 + t) x 149)) s ((2 ^ 23 + t) * 2 ^ x * 2) (2 ^ 150)
    ordinary true true h = absurd h
    ordinary true false h = absurd h
    ordinary false none h = halved (Ieee.odd 24 s (2 ^ 23 + t) x 149) s ((2 ^ 23 + t) * 2 ^ x) (2 ^ 149) (odd_sign 24 s (2 ^ 23 + t) x 149)

-- for any bits that are a finite float's
pub of_bits : (bits : ℕ) → T (finite (Ieee.of_bits binary32 bits)) → HasValue (Ieee.of_bits binary32 bits) (negative bits) (parts bits) unit
unfolding Ieee.of_bits
of_bits bits h =
    let same : bits % 2 ^ 31 / 2 ^ 23 ≡ field bits = Pow.field bits 8 23 in
    rw same (fields (negative bits) (field bits) (bits % 2 ^ 23) (rw same at h))

-- for any finite float, by its own bits
pub of_float : (x : Float) → T (Ieee.fits binary32 x) → T (finite x)
    → HasValue x (negative (Ieee.to_bits binary32 x)) (parts (Ieee.to_bits binary32 x)) unit
of_float x f h =
    let same = of_bits-to_bits binary32 x f in
    let bits = Ieee.to_bits binary32 x in
    subst (λ (y : Float). HasValue y (negative bits) (parts bits) unit) same (of_bits bits (rw same h))

-- 'an infinite product goes to the end of its sign'
pub of_infinity : (s : Bool) → rounded (Ieee.to_bits binary32 (inf s)) ≡ cond s (neg_ℤ (pos furthest)) (pos furthest)
unfolding nearest rounded Ieee.to_bits
of_infinity true = refl
of_infinity false = refl
