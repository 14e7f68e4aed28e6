-- `walk::walk` meets its contract: what is written so far is the path so far (the record Walking). Assumes nothing.
use Prim.Native.Nat.{◌*◌}
use native.Mathlib.Omega.{arith}
use lib.ListN.{length-set}
use lib.Pow.{pow_pos}
use lib.Seq.{get_or-set_same}
use Rattle.blocks.specs.Bounds.{heaviest}
use Rattle.blocks.specs.declared.walk.Visit.{Visit}
use Rattle.blocks.specs.Machines.{states_of, trellis_under}
use Rattle.blocks.proofs.Asked.{top_few}
use Rattle.blocks.proofs.Walks.{walking_start, walking_next}
use Rattle.blocks.proofs.walk.walk.Goals as goal

pub loop-level-init : goal.loop-level-init
loop-level-init c =
    let b = c.args.block.now in
    walking_start (trellis_under b) c.args.message.now heaviest (states_of b.machine) _ (pow_pos (b.machine.inputs * b.machine.memory)) (get_or-set_same c.args.path.now 0 _ _ (omega (arith, c.requires.room)))

pub next-requires : goal.next-requires
next-requires c = record { state = c.loop-level.invariant.below; input = rw c.input-input.ensures (c.requires.inputs c.loop-level.level) }

pub price-requires : goal.price-requires
price-requires c =
    record { level = omega (arith, c.top-top.ensures, c.loop-level-test.true); state = c.loop-level.invariant.below; input = rw c.input-input.ensures (c.requires.inputs c.loop-level.level) }

pub overflow_add-here : goal.overflow_add-here
overflow_add-here c =
    omega (arith, c.loop-level.invariant.small, c.price.ensures.light, c.top-top.ensures, c.loop-level-test.true, top_few c.args.block.now)

pub loop-level-preserved : goal.loop-level-preserved
loop-level-preserved c =
    let b = c.args.block.now in
    walking_next (trellis_under b) c.args.message.now heaviest (states_of b.machine) c.loop-level.path c.loop-level.here c.loop-level.level c.loop-level.invariant
    c.input-input.result c.price.result c.next.result
    c.input-input.ensures c.price.ensures.price c.next.ensures.next (omega (arith, c.price.ensures.light)) c.next.ensures.below
    (omega (arith, c.loop-level.auto.path, length-set {A = Visit}, c.requires.room, c.top-top.ensures, c.loop-level-test.true))
