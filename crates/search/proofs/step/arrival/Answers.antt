-- `step::arrival` meets its contract: the branch of a fitting node can be priced, and what it brings fits a row. Assumes nothing.
use native.Mathlib.Omega.{arith}
use Rattle.blocks.proofs.Asked.{states_few, input_below, inputs_few, top_few}
use Rattle.search.proofs.Fits.{fitting_higher}
use Rattle.search.proofs.step.arrival.Goals as goal

pub price-requires-clause-level : goal.price-requires-clause-level
price-requires-clause-level c = fitting_higher c.args.block.now c.args.from.level c.args.input c.requires.allows

pub price-requires-clause-input : goal.price-requires-clause-input
price-requires-clause-input c = input_below c.args.block.now c.args.from.level c.args.input c.requires.allows

pub next-state-requires-clause-input : goal.next-state-requires-clause-input
next-state-requires-clause-input c = input_below c.args.block.now c.args.from.level c.args.input c.requires.allows

pub returns-clause-small : goal.returns-clause-small
returns-clause-small c =
    let b = c.args.block.now in
    record {
      cost = omega (arith, c.price.ensures.light);
      level = omega (arith, fitting_higher b c.args.from.level c.args.input c.requires.allows, top_few b);
      state = omega (arith, c.next-state.ensures.below, states_few b);
      count = c.requires.small.count;
      parent = omega arith;
      input = omega (arith, input_below b c.args.from.level c.args.input c.requires.allows, inputs_few b);
    }
