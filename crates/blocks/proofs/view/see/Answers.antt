-- `view::see` meets its contract: the numbers that are lent on show the block, and the machine has the code's trellis. Assumes nothing.
use mathlib.Core.Path.{◌≡◌, ap, ◌∙◌}
use Prim.Native.Nat.{ℕ, ◌≤◌}
use native.Mathlib.Omega.{arith}
use Rattle.codes.specs.Limits.{longest_message}
use Rattle.codes.specs.Codes.{block_length}
use Rattle.codes.specs.Work.{longest_block}
use Rattle.codes.specs.declared.table.LawfulCode.{LawfulCode}
use Rattle.codes.proofs.Rules.{block_short}
use Rattle.blocks.specs.Machines.{trellis_at}
use Rattle.blocks.specs.Packed.{seen_in}
use Rattle.blocks.proofs.Machines.{code_trellis}
use Rattle.blocks.proofs.Parts.{part_packed, part_view}
use Rattle.blocks.proofs.view.see.Goals as goal

-- a buffer for the longest block has room for a block
enough : (kept : LawfulCode) (l : ℕ) {symbols room : ℕ} → l ≤ longest_message → symbols ≡ block_length kept.code l → longest_block ≤ room
    → symbols ≤ room
enough kept l span full wide = omega (arith, full, wide, block_short kept.code l kept.rules span)

pub put_numbers-requires : goal.put_numbers-requires
put_numbers-requires c = enough c.args.kept c.args.bits c.requires.span c.requires.full c.requires.room

pub new-requires-clause-narrow : goal.new-requires-clause-narrow
new-requires-clause-narrow c =
    let wide = enough c.args.kept c.args.bits c.requires.span c.requires.full c.requires.room in
    rw (part_packed c.args.symbols.now c.put_numbers.new.seen c.args.seen.now c.put_numbers.ensures.numbers wide) c.put_numbers.ensures.narrow

pub returns-clause-trellis : goal.returns-clause-trellis
returns-clause-trellis c =
    let wide = enough c.args.kept c.args.bits c.requires.span c.requires.full c.requires.room in
    let b = c.new.ensures in
    (λ z. trellis_at (b.machine z) (b.bits z) (seen_in (b.seen z)))
    ∙ ap (trellis_at c.of.result c.args.bits) (part_view c.args.symbols.now c.put_numbers.new.seen c.args.seen.now c.put_numbers.ensures.numbers wide)
    ∙ code_trellis c.of.result c.args.kept.code c.of.ensures c.args.bits _
