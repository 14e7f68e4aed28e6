-- `Entry::read` meets its contract: each part is the number at its place. Assumes nothing.
use Prim.Native.Nat.{ℕ}
use mathlib.Core.List.{List}
use Rattle.sheets.proofs.Numbers.{two_read, four_read}
use Rattle.sheets.proofs.entries.Entry.read.Goals as goal

pub returns : goal.returns
returns c =
    let bytes : List ℕ = c.args.bytes.now in
    let level = two_read bytes 0 c.from_le_bytes.ensures c.bytes_at.ensures in
    let state = two_read bytes 2 c.from_le_bytes-2.ensures c.bytes_at-2.ensures in
    let cost = four_read bytes 4 c.from_le_bytes-3.ensures c.bytes_at-3.ensures in
    λ z. record { node = record { level = level z; state = state z }; cost = cost z }
