-- What `encode` answers and writes, for every input: document 01, 'When the desk says no'. Believed, after Desk and Codes. Assumes nothing.
use Rattle.std.specs.Prelude.{List, ◌++◌, Bool, ◌&&◌, ℕ, leb, length, drop, Result}
use Rattle.lists.specs.Lists.{all}
use Rattle.desk.specs.Desk.{Reply, numbered, with_size, Handed, handed, told_by, tested}
use Rattle.desk.specs.declared.Refusal.{Refusal}
use Rattle.codes.specs.Limits.{shortest_message, longest_message}
use Rattle.codes.specs.Codes.{from, lawful, codeword, block_length}
use Rattle.codes.specs.declared.table.Code.{Code}

-- 0: 'The encoder writes N bytes .. and gives N'
abbrev pub encoded : ℕ → Reply
encoded n = with_size n (numbered 0)

-- the encoder's answer, and the output buffer
abbrev pub told : Result ℕ Refusal → List ℕ → Handed (List ℕ)
told r out = told_by encoded r out

-- 'A message has L bits, L from 1 to 200'; 'The encoder's L is the length of its message'; 'an output buffer .. too short'
abbrev pub sizes_fit : Code → ℕ → ℕ → Bool
sizes_fit c l room = from shortest_message longest_message l && leb (block_length c l) room

-- 'each held as a byte 0 or 1'
abbrev pub is_bit : ℕ → Bool
is_bit b = leb b 1

-- 'The encoder writes N bytes, each 0 or 1, and gives N', and of a longer buffer 'its excess is untouched'.
unfoldable pub encoding : Code → List ℕ → List ℕ → Handed (List ℕ)
encoding c message out =
    tested (lawful c) (sizes_fit c (length message) (length out)) (all is_bit message) out
    (handed (encoded (block_length c (length message))) (codeword c message ++ drop (block_length c (length message)) out))
