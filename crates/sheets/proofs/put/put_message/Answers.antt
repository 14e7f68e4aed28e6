-- `put::put_message` meets its contract: writing the bytes that are left over the buffer as it is gives the whole message (the record
-- Filling). Assumes nothing.
use Rattle.sheets.proofs.Series.{series_filled, series_written}
use Rattle.sheets.proofs.put.put_message.Goals as goal

pub loop-j-preserved : goal.loop-j-preserved
loop-j-preserved c = series_filled _ _ 0 c.octet.ensures c.loop-j-test.true c.loop-j.invariant

pub returns : goal.returns
returns c = series_written _ _ c.loop-j-test.false c.loop-j.invariant
