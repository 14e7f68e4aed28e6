-- `least` meets its contract: of the rows seen, from row i on, the one at best has the least key (the record Seen). Assumes nothing.
use Rattle.std.proofs.Common.{Bool}
use Rattle.trellis.specs.Search.{Row}
use Rattle.store.specs.Scan.{Keyed}
use Rattle.store.proofs.Scans.{Seen, below}
use Rattle.store.proofs.least.Given as goal

abbrev pub invariant-loop-i : goal.invariant-loop-i
invariant-loop-i g l = (eligible : Row → Bool) (ahead : Row → Row → Bool)
    → (keyed : Keyed (goal.F-post g l.key) eligible ahead) → Seen keyed l.work l.n l.i (below l.n l.best) l.lowest
