-- The message's bytes: a bit that was written is read, and a byte that was read, written again, is the byte less its unused bits.
-- Assumes nothing.
use mathlib.Core.Path.{◌≡◌, sym, ap, ap₂, ◌∙◌}
use mathlib.Core.List.{List}
use mathlib.Core.Bool.{cond}
use Prim.Native.Nat.{ℕ, zero, suc, ◌+◌, ◌-◌, ◌*◌, ◌/◌, ◌%◌, ◌^◌, ◌≤◌, ◌<◌, min}
use native.Mathlib.Nat.{div-add-mod}
use native.Mathlib.Numerals.{add-one}
use native.Mathlib.Decide.{dec_lt}
use native.Mathlib.Omega.{arith}
use borrow.Author.Tests.{lt-ltb, le-ltb}
use lib.Dec.{ltb, lit<}
use lib.Pow.{shr-shr}
use lib.ListN.{get_or}
use Rattle.sheets.specs.Bytes.{series, octet, message_place, bit_at}
use Rattle.sheets.proofs.Series.{get_or_series, get_or_series_past}
use Rattle.sheets.proofs.Numbers.{Bytes}

-- eight bits, the first highest
abbrev eight : (ℕ → ℕ) → ℕ
eight f = 128 * f 0 + 64 * f 1 + 32 * f 2 + 16 * f 3 + 8 * f 4 + 4 * f 5 + 2 * f 6 + f 7

-- to change the bits
eight_same : (f g : ℕ → ℕ) → ((r : ℕ) → r < 8 → f r ≡ g r) → eight f ≡ eight g
eight_same f g h =
    omega (arith, h 0 (lit< tt), h 1 (lit< tt), h 2 (lit< tt), h 3 (lit< tt), h 4 (lit< tt), h 5 (lit< tt), h 6 (lit< tt), h 7 (lit< tt))

-- every member of a list is a bit, and so is what a read past its end gives
abbrev pub Bits : List ℕ → Type 0
Bits l = (i : ℕ) → get_or l i 0 ≤ 1

-- for the message: each of its bits is read off the byte
eight_bit : (f : ℕ → ℕ) → ((r : ℕ) → f r ≤ 1) → (r : ℕ) → r < 8 → eight f / 2 ^ (7 - r) % 2 ≡ f r
eight_bit f b zero h = omega (arith, b 0, b 1, b 2, b 3, b 4, b 5, b 6, b 7)
eight_bit f b (suc zero) h = omega (arith, b 0, b 1, b 2, b 3, b 4, b 5, b 6, b 7)
eight_bit f b (suc (suc zero)) h = omega (arith, b 0, b 1, b 2, b 3, b 4, b 5, b 6, b 7)
eight_bit f b (suc (suc (suc zero))) h = omega (arith, b 0, b 1, b 2, b 3, b 4, b 5, b 6, b 7)
eight_bit f b (suc (suc (suc (suc zero)))) h = omega (arith, b 0, b 1, b 2, b 3, b 4, b 5, b 6, b 7)
eight_bit f b (suc (suc (suc (suc (suc zero))))) h = omega (arith, b 0, b 1, b 2, b 3, b 4, b 5, b 6, b 7)
eight_bit f b (suc (suc (suc (suc (suc (suc zero)))))) h = omega (arith, b 0, b 1, b 2, b 3, b 4, b 5, b 6, b 7)
eight_bit f b (suc (suc (suc (suc (suc (suc (suc zero))))))) h = omega (arith, b 0, b 1, b 2, b 3, b 4, b 5, b 6, b 7)
eight_bit f b (suc (suc (suc (suc (suc (suc (suc (suc r)))))))) h = absurd (omega arith)

-- for both: a byte is the eight bits from its place on
octet_eight : (bits : List ℕ) (j : ℕ) → octet bits j ≡ eight (λ r. get_or bits (8 * j + r) 0)
unfolding octet
octet_eight bits j = let e : 8 * j ≡ 8 * j + 0 = omega arith in ap (λ (k : ℕ). eight (λ r. cond (ltb r 1) (get_or bits k 0) (get_or bits (8 * j + r) 0))) e

-- for a message that was written: bit i is read off its byte
pub octet_bit : (bits : List ℕ) → Bits bits → (i : ℕ) → octet bits (i / 8) / 2 ^ (7 - i % 8) % 2 ≡ get_or bits i 0
octet_bit bits b i =
    let e : 8 * (i / 8) + i % 8 ≡ i = omega arith in
    ap (λ (x : ℕ). x / 2 ^ (7 - i % 8) % 2) (octet_eight bits (i / 8))
    ∙ eight_bit (λ r. get_or bits (8 * (i / 8) + r) 0) (λ r. b (8 * (i / 8) + r)) (i % 8) (omega arith)
    ∙ ap (λ (k : ℕ). get_or bits k 0) e

-- ---- what was read stands there

-- bit r of a byte, where only the first k count
abbrev cut : ℕ → ℕ → ℕ → ℕ
cut k byte r = cond (ltb r k) (byte / 2 ^ (7 - r) % 2) 0

-- the first k bits of a number that is halved again and again, and gone after eight times
folded : (half bit : ℕ → ℕ) → ((i : ℕ) → half i ≡ 2 * half (suc i) + bit i) → half 8 ≡ 0 → (k : ℕ) → k ≤ 8
    → eight (λ r. cond (ltb r k) (bit (7 - r)) 0) ≡ 2 ^ (8 - k) * half (8 - k)
folded h b s gone zero l = omega arith
folded h b s gone (suc zero) l = omega (arith, s 7)
folded h b s gone (suc (suc zero)) l = omega (arith, s 6, s 7)
folded h b s gone (suc (suc (suc zero))) l = omega (arith, s 5, s 6, s 7)
folded h b s gone (suc (suc (suc (suc zero)))) l = omega (arith, s 4, s 5, s 6, s 7)
folded h b s gone (suc (suc (suc (suc (suc zero))))) l = omega (arith, s 3, s 4, s 5, s 6, s 7)
folded h b s gone (suc (suc (suc (suc (suc (suc zero)))))) l = omega (arith, s 2, s 3, s 4, s 5, s 6, s 7)
folded h b s gone (suc (suc (suc (suc (suc (suc (suc zero))))))) l = omega (arith, s 1, s 2, s 3, s 4, s 5, s 6, s 7)
folded h b s gone (suc (suc (suc (suc (suc (suc (suc (suc zero)))))))) l = omega (arith, s 0, s 1, s 2, s 3, s 4, s 5, s 6, s 7)
folded h b s gone (suc (suc (suc (suc (suc (suc (suc (suc (suc k))))))))) l = absurd (omega arith)

-- a byte is the byte of its first k bits, and what the other bits are worth
eight_cut : (byte : ℕ) → byte < 256 → (k : ℕ) → k ≤ 8 → eight (cut k byte) + byte % 2 ^ (8 - k) ≡ byte
eight_cut byte h k fits =
    ap (λ (x : ℕ). x + byte % 2 ^ (8 - k)) (folded (λ i. byte / 2 ^ i) (λ i. byte / 2 ^ i % 2) halves (omega arith) k fits)
    ∙ div-add-mod byte (2 ^ (8 - k))
  where
    halves : (i : ℕ) → byte / 2 ^ i ≡ 2 * (byte / 2 ^ suc i) + byte / 2 ^ i % 2
    halves i =
        let e : byte / 2 ^ i / 2 ≡ byte / 2 ^ suc i = shr-shr byte i 1 ∙ ap (λ (j : ℕ). byte / 2 ^ j) (add-one i) in
        omega arith

-- how many bits of byte j are the message's
abbrev pub used : ℕ → ℕ → ℕ
used l j = min 8 (l - 8 * j)

-- For the form: the byte of the bits that were read, and what the unused bits are worth, make the byte.
pub octet_read : (bytes : List ℕ) → Bytes bytes → (l j : ℕ)
    → octet (series l (bit_at bytes)) j + get_or bytes (message_place + j) 0 % 2 ^ (8 - used l j) ≡ get_or bytes (message_place + j) 0
octet_read bytes b l j =
    ap (λ (x : ℕ). x + byte % 2 ^ (8 - used l j)) (octet_eight (series l (bit_at bytes)) j ∙ eight_same _ _ (λ r h. there r h (dec_lt (8 * j + r) l)))
    ∙ eight_cut byte (b (message_place + j)) (used l j) (omega arith)
  where
    byte : ℕ
    byte = get_or bytes (message_place + j) 0

    there : (r : ℕ) → r < 8 → Dec (8 * j + r < l) → get_or (series l (bit_at bytes)) (8 * j + r) 0 ≡ cut (used l j) byte r
    there r small (yes h) =
        let q : (8 * j + r) / 8 ≡ j = omega arith in
        let m : (8 * j + r) % 8 ≡ r = omega arith in
        get_or_series l (bit_at bytes) (8 * j + r) 0 h
        ∙ ap₂ (λ (x y : ℕ). get_or bytes (message_place + x) 0 / 2 ^ (7 - y) % 2) q m
        ∙ sym (rw (lt-ltb r (used l j) (omega arith)))
    there r small (no h) = get_or_series_past l (bit_at bytes) (8 * j + r) 0 (omega arith) ∙ sym (rw (le-ltb r (used l j) (omega arith)))

-- what is read of a message is bits
pub bits_read : (bytes : List ℕ) (l : ℕ) → Bits (series l (bit_at bytes))
bits_read bytes l i = go (dec_lt i l)
  where
    go : Dec (i < l) → get_or (series l (bit_at bytes)) i 0 ≤ 1
    go (yes h) = omega (arith, get_or_series l (bit_at bytes) i 0 h)
    go (no h) = omega (arith, get_or_series_past l (bit_at bytes) i 0 (omega arith))
