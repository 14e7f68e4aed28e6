-- `least` meets its contract: of the rows seen, from row i on, the one at best has the least key (the record Seen). Assumes nothing.
use Rattle.std.proofs.Common.{◌∙◌, ◌≡◌, suc, ◌-◌, arith, rules}
use Rattle.store.proofs.Scans.{below, seen_start, seen_passed, seen_higher, seen_lower, seen_done}
use Rattle.std.proofs.lemmas.Bool.{lt-ltb, le-ltb}
use Rattle.store.proofs.least.Goals as goal

pub loop-i-init : goal.loop-i-init
loop-i-init g c = λ eligible ahead keyed. rw (le-ltb c.args.n c.args.n (omega arith)) (seen_start keyed c.args.work.now c.args.n)

pub loop-i-preserved-then-k-lowest : goal.loop-i-preserved-then-k-lowest
loop-i-preserved-then-k-lowest g c = λ eligible ahead keyed.
    let next : suc (c.loop-i.i - 1) ≡ c.loop-i.i = omega (arith, c.loop-i-test.true) in
    rw (lt-ltb (c.loop-i.i - 1) c.args.n (omega arith))
    (seen_lower keyed c.args.work.now c.args.n (c.loop-i.i - 1) (omega arith) c.in-Some.k (rw c.get-order.ensures at c.in-Some.ensures)
    (below c.args.n c.loop-i.best) c.loop-i.lowest (rw next (c.loop-i.invariant eligible ahead keyed)) c.if-k-lowest.true)

pub loop-i-preserved-else-k-lowest : goal.loop-i-preserved-else-k-lowest
loop-i-preserved-else-k-lowest g c = λ eligible ahead keyed.
    let next : suc (c.loop-i.i - 1) ≡ c.loop-i.i = omega (arith, c.loop-i-test.true) in
    seen_higher keyed c.args.work.now c.args.n (c.loop-i.i - 1) (omega arith) c.in-Some.k (rw c.get-order.ensures at c.in-Some.ensures)
    (below c.args.n c.loop-i.best) c.loop-i.lowest (rw next (c.loop-i.invariant eligible ahead keyed)) (search rules) c.if-k-lowest.false

pub loop-i-preserved : goal.loop-i-preserved
loop-i-preserved g c = λ eligible ahead keyed.
    let next : suc (c.loop-i.i - 1) ≡ c.loop-i.i = omega (arith, c.loop-i-test.true) in
    seen_passed keyed c.args.work.now c.args.n (c.loop-i.i - 1) (omega arith) (rw c.get-order.ensures at c.in_default.ensures)
    (below c.args.n c.loop-i.best) c.loop-i.lowest (rw next (c.loop-i.invariant eligible ahead keyed))

pub returns : goal.returns
returns g c = λ eligible ahead keyed.
    let last : c.loop-i.i ≡ 0 = omega (arith, c.loop-i-test.false) in
    c.then_some.ensures ∙ seen_done keyed c.args.work.now c.args.n (below c.args.n c.loop-i.best) c.loop-i.lowest
    (rw last at (c.loop-i.invariant eligible ahead keyed))
