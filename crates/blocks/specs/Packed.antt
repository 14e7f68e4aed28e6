-- The block as plain numbers, one a place, as the program reads it; and what a place costs by its number.
-- Not believed: what the program answers is said of the view alone. That the numbers hold the view is Packing's, in proofs/.
-- Assumes nothing.
use Rattle.std.specs.Prelude.{List, map, cond, eqb, ℕ, ◌+◌, ◌-◌, ◌*◌, ◌/◌, ◌%◌}
use Rattle.codes.specs.Limits.{most_outputs}
use Rattle.blocks.specs.Symbols.{Seen}

-- ---- numbers

-- twice the weight plus the hard bit
abbrev pub pack : Seen → ℕ
pack symbol = symbol.weight * 2 + symbol.hard_bit

-- what a number shows
abbrev pub unpack : ℕ → Seen
unpack x = record { hard_bit = x % 2; weight = x / 2 }

-- the numbers of a block
unfoldable pub packed : List Seen → List ℕ
packed block = map pack block

-- the block that numbers show
unfoldable pub seen_in : List ℕ → List Seen
seen_in numbers = map unpack numbers

-- what the place of a number costs: its weight, unless the output is its hard bit
abbrev pub toll_of : ℕ → ℕ → ℕ
toll_of output number = cond (eqb output (number % 2)) 0 (number / 2)

-- the number of a place is below this
abbrev pub seen_limit : ℕ
seen_limit = 2048

-- so this is the most that a place weighs, and costs
abbrev pub greatest_toll : ℕ
greatest_toll = seen_limit / 2 - 1

-- what a branch costs at most
abbrev pub greatest_price : ℕ
greatest_price = most_outputs * greatest_toll
