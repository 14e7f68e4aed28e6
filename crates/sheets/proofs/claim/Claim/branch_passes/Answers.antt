-- `Claim::branch_passes` meets its contract: the two tests are made of what the branch brings. Assumes nothing.
use mathlib.Core.Path.{◌≡◌, ap}
use mathlib.Core.List.{List}
use mathlib.Core.Bool.{◌&&◌}
use Prim.Native.Nat.{ℕ, ◌+◌}
use native.Mathlib.Numerals.{add-one}
use native.Mathlib.Omega.{arith}
use Rattle.trellis.specs.Trellis.{Trellis}
use Rattle.trellis.specs.Verdict.{Entry, entry, onto}
use Rattle.trellis.proofs.Paths.{node_path, allowed_top}
use Rattle.trellis.proofs.Order.{entry_path}
use Rattle.blocks.specs.Machines.{trellis_under}
use Rattle.blocks.specs.declared.walk.Visit.{Visit}
use Rattle.sheets.specs.Work.{entries_in, goes_on, clear, passing}
use Rattle.sheets.proofs.claim.Claim.branch_passes.Goals as goal

-- both tests, where what the branch costs and its next state are known
two_tests : (t : Trellis) (es : List Entry) (m : ℕ) (path : List Visit) (e : Entry) (b : ℕ) {paid to : ℕ}
    → paid ≡ t.price e.node.level e.node.state b → to ≡ t.next e.node.state b
    → goes_on es m (entry (e.cost + paid) (e.node.level + 1) to) && clear path e.node.level e.node.state to (e.cost + paid) ≡ passing t es m path e b
two_tests t es m path e b {paid} {to} costs leads =
    let arrives : entry (e.cost + paid) (e.node.level + 1) to ≡ onto t e b =
    entry_path (ap (λ (x : ℕ). e.cost + x) costs) (node_path (add-one e.node.level) leads) in
    λ z. goes_on es m (arrives z) && clear path e.node.level e.node.state (arrives z).node.state (arrives z).cost

pub price-requires-clause-level : goal.price-requires-clause-level
price-requires-clause-level c = allowed_top (trellis_under c.args.self.now.block) c.args.from.node.level c.args.input c.requires.input

pub stays_clear-requires : goal.stays_clear-requires
stays_clear-requires c =
    let s = c.args.self.now in
    omega (arith, allowed_top (trellis_under s.block) c.args.from.node.level c.args.input c.requires.input, s.sound.visits)

pub returns-then-goes_on : goal.returns-then-goes_on
returns-then-goes_on c =
    let s = c.args.self.now in
    let both = two_tests (trellis_under s.block) (entries_in s.entries.now) s.metric s.path.now
    (entry c.args.from.cost c.args.from.node.level c.args.from.node.state) c.args.input c.price.ensures.price c.next.ensures.next in
    rw (← both, ← c.goes_on.ensures, c.if-goes_on.true) c.stays_clear.ensures

pub returns-else-goes_on : goal.returns-else-goes_on
returns-else-goes_on c =
    let s = c.args.self.now in
    let both = two_tests (trellis_under s.block) (entries_in s.entries.now) s.metric s.path.now
    (entry c.args.from.cost c.args.from.node.level c.args.from.node.state) c.args.input c.price.ensures.price c.next.ensures.next in
    rw (← both, ← c.goes_on.ensures, c.if-goes_on.false)
