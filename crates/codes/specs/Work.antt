-- How long a block can be, and what the writing of a codeword asks of its caller. Not believed: what `encode` hands back is said in
-- Encoding alone. Assumes nothing.
use Rattle.std.specs.Prelude.{◌≡◌, List, true, ℕ, ◌+◌, ◌*◌, length}
use Rattle.lists.specs.Lists.{all}
use Rattle.codes.specs.Limits.{most_outputs, most_memory, longest_message}
use Rattle.codes.specs.Encoding.{sizes_fit, is_bit}
use Rattle.codes.specs.declared.table.Code.{Code}

-- L+m is at most this
abbrev pub most_branches : ℕ
most_branches = longest_message + most_memory

-- 'A block has N = n(L+m) symbols, at most 864.'
abbrev pub longest_block : ℕ
longest_block = most_outputs * most_branches

-- what `encode` has tested before it writes
pub record Encodable (c : Code) (message : List ℕ) (room : ℕ) : Type 0 where
  pub sizes : sizes_fit c (length message) room ≡ true
  pub bits : all is_bit message ≡ true
