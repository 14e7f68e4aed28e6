-- Law 2, what it does not say: a node's successor can stand BEFORE the node in the order, where another way to it is cheaper. Here is one,
-- by computation, in a trellis whose tail closes every path. So the search's argument goes by what a branch brings (Order, Ranked) and not
-- by the successor's own cost. Assumes nothing.
use mathlib.Core.Path.{◌≡◌, refl}
use mathlib.Core.List.{◌∷◌, [], flat_map}
use mathlib.Core.Bool.{true, cond}
use Prim.Native.Nat.{◌*◌}
use lib.Dec.{eqb}
use Rattle.lists.specs.Lists.{keep, below, least}
use Rattle.trellis.specs.Trellis.{Trellis, node, successors, allowed, ends, along, paths, paths_to, cost}
use Rattle.trellis.specs.Verdict.{before, priced}

-- the state is the last input; input 1 costs 100 at the first step, and nothing costs later
abbrev dear : Trellis
dear = record { span = 2; tail = 1; inputs = 2; next = (λ s b. b); price = (λ l s b. cond (eqb l 0) (100 * b) 0) }

-- (2, 0) is a successor of (1, 1), which costs 100, and costs 0 by way of (1, 0)
pub successor_before : (successors dear (node 1 1) ≡ node 2 1 ∷ node 2 0 ∷ []) × (before (priced dear (node 2 0)) (priced dear (node 1 1)) ≡ true)
unfolding successors allowed ends along paths paths_to cost keep below least flat_map
successor_before = (refl, refl)
