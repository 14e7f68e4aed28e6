-- The size of a node by name: it stands here once, and once as a const of src/. Believed. Assumes nothing.
use Rattle.std.specs.Prelude.{ℕ}

-- of the working memory: 'a fixed size per node, at most 24 bytes', here three words of 8 bytes
abbrev pub words_per_node : ℕ
words_per_node = 3
