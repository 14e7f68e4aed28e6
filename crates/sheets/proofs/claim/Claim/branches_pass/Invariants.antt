-- `Claim::branches_pass` meets its contract: the inputs that were tried pass. Assumes nothing.
use mathlib.Core.Path.{◌≡◌}
use mathlib.Core.Bool.{true}
use Rattle.lists.specs.Lists.{all, below}
use Rattle.trellis.specs.Verdict.{entry}
use Rattle.blocks.specs.Machines.{trellis_under}
use Rattle.sheets.specs.Work.{entries_in, passing}
use Rattle.sheets.proofs.claim.Claim.branches_pass.Given as goal

abbrev pub invariant-loop-input : goal.invariant-loop-input
invariant-loop-input l =
    all (passing (trellis_under l.self.block) (entries_in l.self.entries.now) l.self.metric l.self.path.now
    (entry l.from.cost l.from.node.level l.from.node.state)) (below l.input) ≡ true
