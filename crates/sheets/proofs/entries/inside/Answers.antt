-- `entries::inside` meets its contract: the chain's test of all is the definition's. Assumes nothing.
use Rattle.std.proofs.Common.{rules, tests, ◌∙◌}
use Rattle.std.proofs.lemmas.Iterator.{YieldsList-from_slice}
use Rattle.std.proofs.lemmas.Iterator.Search.{all_from_yields_List}
use mathlib.Core.List.{List}
use mathlib.Core.Bool.{Bool, ◌&&◌}
use Prim.Native.Nat.{ℕ}
use lib.Dec.{leb, ltb}
use Rattle.sheets.specs.Bytes.{entry_at}
use Rattle.sheets.proofs.Listing.{all_listed}
use Rattle.sheets.proofs.entries.inside.Goals as goal

pub returns : goal.returns
returns c =
    let within : List ℕ → Bool = λ b. leb (entry_at b 0).node.level c.args.top && ltb (entry_at b 0).node.state c.args.states in
    all_from_yields_List within _ _ _ c.all.ensures.ran (YieldsList-from_slice c.args.entries.now cc) (λ x b q k. search (rules, tests))
    ∙ all_listed _ c.args.entries.now
