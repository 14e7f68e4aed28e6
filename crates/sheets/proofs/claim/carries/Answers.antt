-- `claim::carries` meets its contract: the path is walked, and the tests are the conditions. Assumes nothing.
use mathlib.Core.Path.{sym, ap, ◌∙◌}
use Prim.Native.Nat.{ℕ, ◌+◌}
use native.Mathlib.Omega.{arith}
use lib.ListN.{get_or, take}
use lib.Seq.{length-take-le}
use Rattle.lists.specs.Lists.{all}
use Rattle.trellis.specs.Trellis.{top}
use Rattle.blocks.specs.Machines.{states_of, trellis_under}
use Rattle.blocks.proofs.Asked.{top_few, bit_input}
use Rattle.blocks.proofs.Walks.{walked_part}
use Rattle.sheets.specs.Bytes.{sheet_read}
use Rattle.sheets.specs.Checking.{rising, inside}
use Rattle.sheets.specs.Work.{passes}
use Rattle.sheets.proofs.Octets.{bits_read}
use Rattle.sheets.proofs.Rows.{formed_good}
use Rattle.sheets.proofs.Claims.{carried_tests}
use Rattle.sheets.proofs.claim.carries.Goals as goal

pub walk-requires : goal.walk-requires
unfolding sheet_read
walk-requires c =
    let b = c.args.block.now in
    record {
      inputs = (λ i. bit_input b (get_or c.args.message.now i 0) (rw c.requires.own (bits_read c.args.sheet.now b.bits i)));
      room = omega (arith, top_few b);
    }

pub read-requires : goal.read-requires
read-requires c = (formed_good c.args.block.now c.args.sheet.now (λ i. (c.type_inv.sheet i).fits) c.requires.some c.requires.form).front

pub entries_of-requires : goal.entries_of-requires
entries_of-requires c = (formed_good c.args.block.now c.args.sheet.now (λ i. (c.type_inv.sheet i).fits) c.requires.some c.requires.form).counted

pub overflow_add-path : goal.overflow_add-path
overflow_add-path c = record { fits = omega (arith, top_few c.args.block.now, c.top-top.ensures) }

pub slice_bounds-path-end : goal.slice_bounds-path-end
slice_bounds-path-end c = omega (arith, top_few c.args.block.now, c.top-top.ensures, c.walk.auto.path)

pub slice_bounds-claim-end : goal.slice_bounds-claim-end
slice_bounds-claim-end c =
    sym (length-take-le (c.top-top.result + 1) c.walk.new.path (omega (arith, top_few c.args.block.now, c.top-top.ensures, c.walk.auto.path)))

pub invariant_of-claim : goal.invariant_of-claim
invariant_of-claim c =
    let b = c.args.block.now in
    let good = formed_good b c.args.sheet.now (λ i. (c.type_inv.sheet i).fits) c.requires.some c.requires.form in
    record {
      sound = record {
        ordered = ap rising c.entries_of.ensures ∙ good.ordered;
        inside = ap (all (inside (top (trellis_under b)) (states_of b.machine))) c.entries_of.ensures ∙ good.inside;
        visits = length-take-le (c.top-top.result + 1) c.walk.new.path (omega (arith, top_few b, c.top-top.ensures, c.walk.auto.path))
            ∙ ap (λ (n : ℕ). n + 1) c.top-top.ensures;
      };
    }

pub returns : goal.returns
unfolding sheet_read
returns c =
    let b = c.args.block.now in
    let t = trellis_under b in
    let good = formed_good b c.args.sheet.now (λ i. (c.type_inv.sheet i).fits) c.requires.some c.requires.form in
    let path = take (c.top-top.result + 1) c.walk.new.path in
    let walked = rw c.requires.own at c.walk.ensures in
    c.passes.ensures
    ∙ (λ z. passes t (c.entries_of.ensures z) (c.read.ensures.metric z) path)
    ∙ sym (carried_tests b c.args.sheet.now path good.ordered
    (walked_part t (sheet_read b.bits c.args.sheet.now).message (top t) (c.top-top.result + 1) c.walk.new.path (omega (arith, c.top-top.ensures)) walked))
