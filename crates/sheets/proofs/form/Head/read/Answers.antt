-- `Head::read` meets its contract: each number is the one at its place. Assumes nothing.
use Rattle.sheets.proofs.Numbers.{two_read, four_read}
use Rattle.sheets.proofs.form.Head.read.Goals as goal

pub returns : goal.returns
returns c =
    let bytes = c.args.sheet.now in
    record {
      follow = four_read bytes 0 c.from_le_bytes.ensures c.bytes_at.ensures;
      kind = two_read bytes 4 c.from_le_bytes-2.ensures c.bytes_at-2.ensures;
      span = two_read bytes 6 c.from_le_bytes-3.ensures c.bytes_at-3.ensures;
      metric = four_read bytes 8 c.from_le_bytes-4.ensures c.bytes_at-4.ensures;
      count = two_read bytes 12 c.from_le_bytes-5.ensures c.bytes_at-5.ensures;
    }
