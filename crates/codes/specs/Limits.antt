-- The limits of document 01, 'The code table', by name: each stands here once, and once as a const of src/. Assumes nothing.
use Rattle.std.specs.Prelude.{ℕ}

-- 'n outputs (2 to 4)'
abbrev pub fewest_outputs : ℕ
fewest_outputs = 2

abbrev pub most_outputs : ℕ
most_outputs = 4

-- 'memory m (1 to 16)'
abbrev pub least_memory : ℕ
least_memory = 1

abbrev pub most_memory : ℕ
most_memory = 16

-- 'L from 1 to 200'
abbrev pub shortest_message : ℕ
shortest_message = 1

abbrev pub longest_message : ℕ
longest_message = 200
