-- `Machine::of` meets its contract: a lawful code's bounds are the machine's. Assumes nothing.
use mathlib.Core.Path.{refl}
use Rattle.codes.proofs.Rules.{lawful_out}
use Rattle.blocks.proofs.block.Machine.of.Goals as goal

pub invariant_of-result : goal.invariant_of-result
invariant_of-result c =
    let kept = c.args.kept in
    let bounds = lawful_out kept.code kept.rules in
    record {
      one = refl;
      outputs_few = bounds.outputs_most;
      memory_some = bounds.memory_least;
      memory_few = bounds.memory_most;
      four = kept.four;
    }
