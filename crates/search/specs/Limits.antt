-- The limit of the search by name: it stands here once, and once as a const of src/. Believed. Assumes nothing.
use Rattle.std.specs.Prelude.{ℕ}

-- 'a room R (0 to 4,096 nodes)'
abbrev pub largest_room : ℕ
largest_room = 4096
