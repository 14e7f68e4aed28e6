-- `encoder::put_codeword` meets its contract: what is written and what is left are the codeword, and nothing behind was touched.
-- Assumes nothing.
use native.Mathlib.Nat.{mul-suc}
use Rattle.std.proofs.Common.{rules, arith, ◌≡◌, ◌+◌, ◌-◌, ◌*◌, length}
use Rattle.codes.specs.Codes.{generators_of}
use Rattle.codes.proofs.Codewords.{branch_fits, outputs_next, front_next, back_next}
use Rattle.codes.proofs.Registers.{next_below}
use Rattle.codes.proofs.Rules.{outputs_few, room_enough, bit_small}
use Rattle.codes.proofs.encoder.put_codeword.Goals as goal

pub loop-i-preserved : goal.loop-i-preserved
loop-i-preserved c =
    let code = c.args.kept.code in
    let kept = c.args.kept.rules in
    let message = c.args.message.now in
    let i = c.loop-i.i in
    let n = code.outputs in
    let few = outputs_few kept c.requires in
    let small = bit_small kept c.requires i in
    let room = room_enough kept c.requires in
    let fits = branch_fits n i (length message + code.memory) (rw c.branches-branches.ensures at c.loop-i-test.true) in
    let counted : length c.put_branch.new.branch ≡ n = search rules in
    let place : n * i + n - n * i ≡ n = omega arith in
    let after : n * (i + 1) ≡ n * i + n = omega (arith, mul-suc n i) in
    let next = outputs_next (generators_of code) code.memory c.loop-i.register.state message i (rw c.branches-branches.ensures at c.loop-i-test.true) in
    record {
      memory = search rules;
      state = search (rules, next_below);
      written = front_next (n * i) n c.loop-i.out c.put_branch.new.branch counted (omega arith) _ _ _ _ _ place after (cc) c.loop-i.invariant.written;
      kept = search (rules, back_next);
    }
