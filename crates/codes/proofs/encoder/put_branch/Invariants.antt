-- `encoder::put_branch` meets its contract: the outputs of the generators that were met stand in front. Assumes nothing.
use Rattle.std.proofs.Common.{◌≡◌, take}
use Rattle.codes.specs.Codes.{branch_outputs}
use Rattle.codes.proofs.encoder.put_branch.Given as goal

abbrev pub invariant-loop-j : goal.invariant-loop-j
invariant-loop-j l = take l.j l.branch ≡ branch_outputs (take l.j l.generators) l.register
