-- `encoder::are_bits` meets its contract: the chain's `all` is the definition's. Assumes nothing.
use Rattle.std.proofs.Common.{rules, tests, ◌∙◌}
use Rattle.std.proofs.lemmas.Iterator.{YieldsList-from_slice}
use Rattle.std.proofs.lemmas.Iterator.Search.{all_from_yields_List}
use Rattle.codes.specs.Encoding.{is_bit}
use Rattle.codes.proofs.Rules.{all_listed}
use Rattle.codes.proofs.encoder.are_bits.Goals as goal

pub returns : goal.returns
returns c =
    all_from_yields_List is_bit _ _ _ c.all.ensures.ran (YieldsList-from_slice c.args.message.now cc) (λ x b q k. search (rules, tests)) ∙ all_listed is_bit c.args.message.now
