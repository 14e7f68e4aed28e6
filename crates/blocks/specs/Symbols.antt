-- A symbol, its hard bit and its weight, and the block as the search sees it: document 01, 'Weight, metric, node'.
-- Symbols become weights and hard bits here and nowhere else: all that follows reads the view only. Believed. Assumes nothing.
use Rattle.std.specs.Prelude.{List, map, ℕ, suc, ℤ, pos, negsuc}

-- 'A symbol is a signed byte. Its hard bit is 1 if it is below zero and 0 otherwise.'
abbrev pub hard_bit : ℤ → ℕ
hard_bit (pos n) = 0
hard_bit (negsuc n) = 1

-- 'Its weight is its distance from zero, so -128 weighs 128.' (negsuc n is -(n + 1))
abbrev pub weight : ℤ → ℕ
weight (pos n) = n
weight (negsuc n) = suc n

-- what is seen of one symbol
pub record Seen : Type 0 where
  pub hard_bit : ℕ
  pub weight : ℕ

-- the block as the search sees it
unfoldable pub view : List ℤ → List Seen
view symbols = map (λ z. record { hard_bit = hard_bit z; weight = weight z }) symbols
