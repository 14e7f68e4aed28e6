-- What was seen of a block's symbols stands in front of a buffer: the part that is lent on shows the block's view. Assumes nothing.
use mathlib.Core.Path.{◌≡◌, ap, ◌∙◌}
use mathlib.Core.List.{List}
use Prim.Native.Nat.{ℕ, ◌≤◌}
use lib.IntN.{ℤ}
use lib.ListN.{length, take}
use lib.Seq.{sets}
use Rattle.blocks.specs.Symbols.{view}
use Rattle.blocks.specs.Packed.{packed, seen_in}
use Rattle.blocks.proofs.Packing.{seen_in_packed, see_part}

module _ (symbols : List ℤ) (seen before : List ℕ) (e : seen ≡ sets before 0 (packed (view symbols))) (wide : length symbols ≤ length before) where
  -- for its numbers
  pub part_packed : take (length symbols) seen ≡ packed (view symbols)
  part_packed = ap (take (length symbols)) e ∙ see_part symbols before wide

  -- for what is decided of it
  pub part_view : seen_in (take (length symbols) seen) ≡ view symbols
  part_view = ap seen_in part_packed ∙ seen_in_packed symbols
