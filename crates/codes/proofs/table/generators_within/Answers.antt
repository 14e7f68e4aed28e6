-- `table::generators_within` meets its contract: the chain's `all` is the definition's. Assumes nothing.
use Rattle.std.proofs.Common.{rules, tests, ◌∙◌}
use Rattle.std.proofs.lemmas.Iterator.{YieldsList-from_slice}
use Rattle.std.proofs.lemmas.Iterator.Search.{all_from_yields_List}
use Rattle.codes.specs.Codes.{from}
use Rattle.codes.proofs.Rules.{all_listed}
use Rattle.codes.proofs.table.generators_within.Goals as goal

pub returns : goal.returns
returns c =
    let within = from 1 c.args.greatest in
    let generators = c.args.generators.now in
    all_from_yields_List within _ _ _ c.all.ensures.ran (YieldsList-from_slice generators cc) (λ x b q k. search (rules, tests)) ∙ all_listed within generators
