-- The decision sheet and its bytes: document 01, 'The decision sheet', in its order. First numbers, message and entries as bytes and the
-- one definition of a sheet's bytes; then the fields read off bytes by their places.
-- Believed. Which bytes have a good form, and what the check answers, is in Checking. Assumes nothing.
use mathlib.Core.List.{List, [], ◌∷◌, ◌++◌, flat_map}
use Rattle.std.specs.Prelude.{ℕ, zero, suc, ◌+◌, ◌-◌, ◌*◌, ◌/◌, ◌%◌, ◌^◌, length, get_or}
use Rattle.trellis.specs.Verdict.{Entry, entry}

-- What a sheet says beside L: 'metric M', 'The message', 'Entries'.
pub record Sheet : Type 0 where
  pub metric : ℕ
  pub message : List ℕ
  pub entries : List Entry

-- f of 0, 1, .., n - 1
unfoldable pub series : {A : Type 0} → ℕ → (ℕ → A) → List A
series zero f = []
series (suc n) f = f 0 ∷ series n (λ i. f (suc i))

-- ---- written

-- 'little-endian': a number in so many bytes, the lowest byte first
unfoldable pub bytes_of : ℕ → ℕ → List ℕ
bytes_of zero n = []
bytes_of (suc width) n = n % 256 ∷ bytes_of width (n / 256)

-- 'kind 257'
abbrev pub kind : ℕ
kind = 257

-- 'The message in ceil(L/8) bytes'
abbrev pub message_size : ℕ → ℕ
message_size l = (l + 7) / 8

-- 'first bit highest, unused bits 0': byte j of a message, where a bit that is not there counts 0
unfoldable pub octet : List ℕ → ℕ → ℕ
octet bits j =
    128 * get_or bits (8 * j) 0 + 64 * get_or bits (8 * j + 1) 0 + 32 * get_or bits (8 * j + 2) 0 + 16 * get_or bits (8 * j + 3) 0 +
    8 * get_or bits (8 * j + 4) 0 + 4 * get_or bits (8 * j + 5) 0 + 2 * get_or bits (8 * j + 6) 0 + get_or bits (8 * j + 7) 0

-- 'The message in ceil(L/8) bytes', one after another
abbrev pub message_bytes : ℕ → List ℕ → List ℕ
message_bytes l bits = series (message_size l) (octet bits)

-- 'Entries of 8 bytes: level (2), state (2), cost (4).'
abbrev pub entry_bytes : Entry → List ℕ
entry_bytes e = bytes_of 2 e.node.level ++ bytes_of 2 e.node.state ++ bytes_of 4 e.cost

-- '2 bytes: kind 257. 2: L. 4: metric M. 2: entry count', then 'The message', then 'Entries'
unfoldable pub following : ℕ → Sheet → List ℕ
following l s =
    bytes_of 2 kind ++ bytes_of 2 l ++ bytes_of 4 s.metric ++ bytes_of 2 (length s.entries) ++
    message_bytes l s.message ++
    flat_map entry_bytes s.entries

-- 'length first': '4 bytes: number of bytes that follow'. The bytes of a sheet for messages of L bits.
unfoldable pub sheet_bytes : ℕ → Sheet → List ℕ
sheet_bytes l s = bytes_of 4 (length (following l s)) ++ following l s

-- ---- read

-- 'little-endian': the number in so many bytes from a place on, the lowest byte first; a byte that is not there counts 0
unfoldable pub number_at : ℕ → ℕ → List ℕ → ℕ
number_at zero at bytes = 0
number_at (suc width) at bytes = get_or bytes at 0 + 256 * number_at width (suc at) bytes

-- Where the fields stand, by the bytes before them: '4 bytes: number of bytes that follow. 2 bytes: kind 257. 2: L. 4: metric M.'
abbrev pub metric_place : ℕ
metric_place = 8

-- '2: entry count'
abbrev pub count_place : ℕ
count_place = 12

-- 'The message'
abbrev pub message_place : ℕ
message_place = 14

-- 'Entries', behind the message
abbrev pub entries_place : ℕ → ℕ
entries_place l = message_place + message_size l

-- bit i of the message, 'first bit highest'
abbrev pub bit_at : List ℕ → ℕ → ℕ
bit_at bytes i = get_or bytes (message_place + i / 8) 0 / 2 ^ (7 - i % 8) % 2

-- the entry at a place: 'level (2), state (2), cost (4)'
abbrev pub entry_at : List ℕ → ℕ → Entry
entry_at bytes at = entry (number_at 4 (at + 4) bytes) (number_at 2 at bytes) (number_at 2 (at + 2) bytes)

-- The sheet that bytes say, for messages of L bits: each field by its place, whatever the bytes are. Whether they have the form is
-- asked in Checking.
unfoldable pub sheet_read : ℕ → List ℕ → Sheet
sheet_read l bytes = record {
  metric = number_at 4 metric_place bytes;
  message = series l (bit_at bytes);
  entries = series (number_at 2 count_place bytes) (λ i. entry_at bytes (entries_place l + 8 * i));
}
