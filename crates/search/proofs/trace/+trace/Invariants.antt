-- `search::trace::trace` ends: the level falls. Assumes nothing.
use Rattle.search.proofs.trace.+trace.Given as goal

abbrev pub decreases-trace : goal.decreases-trace
decreases-trace l = l.level
