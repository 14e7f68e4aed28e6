-- `Claim::branches_pass` meets its contract: the inputs that were tried pass. Assumes nothing.
use mathlib.Core.Path.{sym, ap, ◌∙◌}
use mathlib.Core.Bool.{Bool}
use Prim.Native.Nat.{ℕ}
use Rattle.lists.specs.Lists.{all, below}
use Rattle.trellis.specs.Verdict.{entry}
use Rattle.blocks.specs.Machines.{trellis_under}
use Rattle.sheets.specs.Work.{entries_in, passing, all_passing}
use Rattle.sheets.proofs.Inputs.{below_fails}
use Rattle.sheets.proofs.claim.Claim.branches_pass.Goals as goal

pub returns-then-not-branch_passes : goal.returns-then-not-branch_passes
unfolding all_passing
returns-then-not-branch_passes c =
    let s = c.args.self.now in
    let from = c.args.from in
    let test : ℕ → Bool = passing (trellis_under s.block) (entries_in s.entries.now) s.metric s.path.now (entry from.cost from.node.level from.node.state) in
    sym (ap (λ (n : ℕ). all test (below n)) (sym c.allowed-inputs.ensures)
    ∙ below_fails test c.allowed-inputs.result c.loop-input.input c.loop-input-test.true (sym c.branch_passes.ensures ∙ c.if-not-branch_passes.true))
