-- `seen::take_message` meets its contract: writing the bits that are left over the buffer as it is gives the whole message (the record
-- Filling). Assumes nothing.
use native.Mathlib.Nat.{zero-add}
use Rattle.sheets.specs.Bytes.{sheet_read}
use Rattle.sheets.proofs.Series.{series_filled, series_written}
use Rattle.sheets.proofs.seen.take_message.Goals as goal

pub loop-i-preserved : goal.loop-i-preserved
unfolding sheet_read
loop-i-preserved c = simp zero-add at (series_filled _ _ 0 c.bit.ensures c.loop-i-test.true c.loop-i.invariant)

pub returns : goal.returns
unfolding sheet_read
returns c = series_written _ _ c.loop-i-test.false c.loop-i.invariant
