-- `Nodes::new` meets its contract: no words are read for no rows. Assumes nothing.
use Rattle.std.proofs.Common.{refl}
use Rattle.store.specs.Memory.{rows_of}
use Rattle.store.proofs.Nodes.new.Goals as goal

pub returns : goal.returns
unfolding rows_of
returns c = refl
