-- `view::put_numbers` meets its contract: writing the numbers that are left over the buffer as it is gives all of them (the record
-- Filling), and those that are written are small. Assumes nothing.
use mathlib.Core.List.{List}
use Prim.Native.Nat.{ℕ, ◌<◌}
use lib.ListN.{get_or}
use Rattle.lists.proofs.Writing.{Filling}
use Rattle.blocks.specs.Symbols.{view}
use Rattle.blocks.specs.Packed.{seen_limit, packed}
use Rattle.blocks.proofs.view.put_numbers.Given as goal

-- i numbers are written
pub record Numbered (first numbers seen : List ℕ) (i : ℕ) : Type 0 where
  pub filling : Filling first numbers 0 seen i
  pub narrow : (j : ℕ) → j < i → get_or numbers j 0 < seen_limit

abbrev pub invariant-loop-i : goal.invariant-loop-i
invariant-loop-i l = Numbered l.initial.seen (packed (view l.symbols)) l.seen l.i
