-- From a product to its symbol: document 01, 'From readings to symbols': 'The meaning of rounding is stated over the float's bits as
-- whole numbers.' Believed, in this order; that the first six read a float rightly is shown besides (proofs/Meaning.antt).
-- A single-precision float is 32 bits. Read as one whole number they are a sign, worth 2 ^ 31, a field of 8 bits for the exponent, each
-- step of it worth 2 ^ 23, and 23 digits. By hand: 2.5 has the bits 0x4020_0000, so its field is 128, its significand 2.5 * 2 ^ 22 and
-- its parts 2.5 * 2 ^ 150; with one half more the five halves make 3. Assumes nothing.
use Rattle.std.specs.Prelude.{ℕ, ◌+◌, ◌*◌, ◌/◌, ◌%◌, ◌^◌, min, max, Bool, cond, leb, eqb, ℤ, pos, neg_ℤ}
use Rattle.front.specs.Limits.{furthest}

-- ---- the float of the bits

-- The sign is set in a float below zero, and in -0.
abbrev pub negative : ℕ → Bool
negative bits = leb (2 ^ 31) bits

abbrev pub field : ℕ → ℕ
field bits = bits / 2 ^ 23 % 2 ^ 8

-- The digits stand behind a leading one. Field 0 has none, and the exponent of field 1: there lie the two zeros and the subnormals.
abbrev pub significand : ℕ → ℕ
significand bits = cond (eqb (field bits) 0) (bits % 2 ^ 23) (2 ^ 23 + bits % 2 ^ 23)

abbrev pub exponent : ℕ → ℕ
exponent bits = max 1 (field bits)

-- The float's distance from zero is this many parts, of which a unit make 1. An infinity, field 255 with no digits, reads as 2 ^ 128,
-- past every float. A NaN's patterns read as more still, and no product here has one.
abbrev pub parts : ℕ → ℕ
parts bits = significand bits * 2 ^ exponent bits

abbrev pub unit : ℕ
unit = 2 ^ 150

-- ---- the rounding

-- 'the nearest whole number', halves upwards: the whole part of the distance and a half. The distance is 2 * parts of 2 * unit, and a
-- half is one unit of them.
unfoldable pub nearest : ℕ → ℕ
nearest bits = (2 * parts bits + unit) / (2 * unit)

-- 'halves away from zero', since the sign comes last; 'held within -127 to 127 (an infinite product goes to the end of its sign)'
unfoldable pub rounded : ℕ → ℤ
rounded bits = cond (negative bits) (neg_ℤ (pos (min furthest (nearest bits)))) (pos (min furthest (nearest bits)))
