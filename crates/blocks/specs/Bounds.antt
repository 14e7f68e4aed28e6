-- How large blocks, weights and metrics are, by name: document 01, 'The code table' and 'Weight, metric, node'. Not believed: no
-- contract of a public operation cites them; they say why the program's numbers fit. Assumes nothing.
use Rattle.std.specs.Prelude.{List, [], ◌∷◌, ℕ, ◌+◌, ◌*◌, ◌^◌}
use Rattle.codes.specs.Work.{longest_block}
use Rattle.blocks.specs.Symbols.{Seen}

-- 'the sum of all weights'
unfoldable pub total_weight : List Seen → ℕ
total_weight [] = 0
total_weight (symbol ∷ block) = symbol.weight + total_weight block

-- 'so -128 weighs 128'
abbrev pub greatest_weight : ℕ
greatest_weight = 128

-- 'at most the sum of all weights, so at most 110,592'
abbrev pub greatest_metric : ℕ
greatest_metric = greatest_weight * longest_block

-- more than any block weighs as it is seen: each of its places weighs at most `greatest_toll` (Packed)
abbrev pub heaviest : ℕ
heaviest = 2 ^ 22
