-- A code, its rules, the house codes, the register, the output bit and the codeword: document 01, 'The code table', in its order.
-- Believed. What `encode` answers is in Encoding. Assumes nothing.
use Rattle.std.specs.Prelude.{List, [], ◌∷◌, ◌++◌, map, Bool, ◌&&◌, ℕ, ◌+◌, ◌-◌, ◌*◌, ◌/◌, ◌%◌, ◌^◌, leb, take, get_or, replicate}
use Rattle.std.specs.Int.Bits.{bit_and}
use Rattle.std.specs.Int.Count.{ones}
use Rattle.lists.specs.Lists.{all}
use Rattle.codes.specs.Limits.{fewest_outputs, most_outputs, least_memory, most_memory}
use Rattle.codes.specs.declared.table.Code.{Code}

-- ---- the rules

-- a number from one to another
abbrev pub from : ℕ → ℕ → ℕ → Bool
from low high x = leb low x && leb x high

-- the n generators of a code; what stands behind them is ignored
abbrev pub generators_of : Code → List ℕ
generators_of c = take c.outputs c.generators

-- 'A code has n outputs (2 to 4), memory m (1 to 16) and n generators, each from 1 to 2^(m+1) - 1.'
unfoldable pub lawful : Code → Bool
lawful c =
    from fewest_outputs most_outputs c.outputs &&
    from least_memory most_memory c.memory &&
    all (from 1 (2 ^ (c.memory + 1) - 1)) (generators_of c)

-- ---- the house codes

-- 'Four house codes stand in a table, one row for each code: 7, 5 (m=2; 000); 103, 93 (m=6; 001); 303, 493 (m=8; 002);
-- 118025, 78583 (m=16; 001).'
unfoldable pub house_codes : List Code
house_codes =
    record { outputs = 2; memory = 2; generators = 7 ∷ 5 ∷ 0 ∷ 0 ∷ [] } ∷
    record { outputs = 2; memory = 6; generators = 103 ∷ 93 ∷ 0 ∷ 0 ∷ [] } ∷
    record { outputs = 2; memory = 8; generators = 303 ∷ 493 ∷ 0 ∷ 0 ∷ [] } ∷
    record { outputs = 2; memory = 16; generators = 118025 ∷ 78583 ∷ 0 ∷ 0 ∷ [] } ∷ []

-- the code of a row, counted from 0; behind the last row all zeros, which every operation refuses
unfoldable pub house_code : ℕ → Code
house_code row = get_or house_codes row (record { outputs = 0; memory = 0; generators = 0 ∷ 0 ∷ 0 ∷ 0 ∷ [] })

-- ---- the register

-- 'With input bit b the register is b·2^m + state.'
abbrev pub register_of : ℕ → ℕ → ℕ → ℕ
register_of m b state = b * 2 ^ m + state

-- 'Output i is 1 if the register and generator i share an odd number of one bits.'
abbrev pub output_bit : ℕ → ℕ → ℕ
output_bit register generator = ones (bit_and register generator) % 2

-- 'The next state is the register halved, remainder dropped.'
abbrev pub next_state : ℕ → ℕ → ℕ → ℕ
next_state m b state = register_of m b state / 2

-- ---- the codeword

-- 'Outputs leave branch by branch, generator 1 first': one branch
abbrev pub branch_outputs : List ℕ → ℕ → List ℕ
branch_outputs generators register = map (output_bit register) generators

-- the branches of these bits, from a state on
unfoldable pub outputs_from : List ℕ → ℕ → ℕ → List ℕ → List ℕ
outputs_from generators m state [] = []
outputs_from generators m state (b ∷ bits) =
    branch_outputs generators (register_of m b state) ++ outputs_from generators m (next_state m b state) bits

-- 'After the L message bits come m zero bits'
abbrev pub with_tail : ℕ → List ℕ → List ℕ
with_tail m message = message ++ replicate m 0

-- the codeword of a message; the state 'starts at 0'
unfoldable pub codeword : Code → List ℕ → List ℕ
codeword c message = outputs_from (generators_of c) c.memory 0 (with_tail c.memory message)

-- L+m: the branches of a message of L bits, its tail's with them
abbrev pub branches : Code → ℕ → ℕ
branches c l = l + c.memory

-- 'A block has N = n(L+m) symbols'
abbrev pub block_length : Code → ℕ → ℕ
block_length c l = c.outputs * branches c l
