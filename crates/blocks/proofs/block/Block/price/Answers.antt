-- `Block::price` meets its contract: the branch's outputs are those of its register, and its numbers those of its level. Assumes
-- nothing.
use mathlib.Core.Path.{◌≡◌, sym, ap, ◌∙◌}
use mathlib.Core.List.{List}
use Prim.Native.Nat.{ℕ, ◌+◌, ◌-◌, ◌*◌, ◌<◌}
use native.Mathlib.Omega.{arith}
use lib.ListN.{length, get_or, take, drop, length-map}
use Rattle.std.proofs.lemmas.List.{get_or-drop}
use Rattle.std.specs.List.{drop-map}
use Rattle.codes.specs.Codes.{register_of, output_bit, branch_outputs}
use Rattle.blocks.specs.Blocks.{distance}
use Rattle.blocks.specs.Machines.{generators_at, cost_at, trellis_at, trellis_under}
use Rattle.blocks.specs.Packed.{unpack, seen_limit, seen_in}
use Rattle.blocks.proofs.Distance.{distance_within}
use Rattle.blocks.proofs.Machines.{generators_counted}
use Rattle.blocks.proofs.Prices.{branch_within, distance_sum, distance_front, distance_most, seen_light}
use Rattle.blocks.proofs.block.Block.price.Goals as goal

pub slice_bounds-generators-end : goal.slice_bounds-generators-end
slice_bounds-generators-end c = let m = c.args.self.now.machine in omega (arith, m.outputs_few, m.four)

pub slice_bounds-distance-end : goal.slice_bounds-distance-end
slice_bounds-distance-end c = sym (generators_counted c.args.self.now.machine)

pub slice_bounds-distance-end-2 : goal.slice_bounds-distance-end-2
unfolding trellis_at
slice_bounds-distance-end-2 c =
    let block = c.args.self.now in
    omega (arith, branch_within block.machine.outputs (block.bits + block.machine.memory) c.args.level c.requires.level, block.full)

pub distance-requires : goal.distance-requires
distance-requires c = let m = c.args.self.now.machine in rw (generators_counted m) m.outputs_few

pub returns : goal.returns
unfolding trellis_at cost_at seen_in
returns c =
    let block = c.args.self.now in
    let m = block.machine in
    let seen = block.seen.now in
    let first = c.args.level * m.outputs in
    let outputs : List ℕ = branch_outputs (generators_at m) c.with-register.result in
    let counted : length outputs ≡ m.outputs = length-map (generators_at m) (output_bit c.with-register.result) ∙ generators_counted m in
    let part : first + m.outputs - first ≡ m.outputs = omega arith in
    let met : c.distance.result ≡ distance outputs (seen_in (drop first seen)) =
    (rw part at c.distance.ensures)
    ∙ distance_sum c.with-register.result (generators_at m) (take m.outputs (drop first seen))
    ∙ distance_front outputs (drop first seen) m.outputs (omega (arith, counted)) in
    let paid : c.distance.result ≡ (trellis_under block).price c.args.level c.args.state c.args.input =
    met
    ∙ ap (distance outputs) (sym (drop-map unpack first seen))
    ∙ ap (λ (r : ℕ). distance (branch_outputs (generators_at m) r) (drop first (seen_in seen))) c.with-register.ensures in
    let small : (i : ℕ) → get_or (drop first seen) i 0 < seen_limit = λ i. rw (get_or-drop first seen i 0) (block.narrow (first + i)) in
    record {
      price = paid;
      light = rw paid (omega (arith, distance_within (branch_outputs (generators_at m) (register_of m.memory c.args.input c.args.state)) (seen_in seen) first, seen_light block));
      most = rw met (omega (arith, distance_most outputs (drop first seen) small, counted, m.outputs_few));
    }
