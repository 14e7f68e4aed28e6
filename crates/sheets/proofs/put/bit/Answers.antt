-- `put::bit` meets its contract: a bit stands at the place, and behind the end 0. Assumes nothing.
use mathlib.Core.Path.{◌≡◌, refl}
use native.Mathlib.Omega.{arith}
use borrow.Author.Tests.{leb-true}
use lib.ListN.{get_or}
use Rattle.std.proofs.Common.{rules}
use Rattle.lists.proofs.Scan.{all_get_or}
use Rattle.codes.specs.Encoding.{is_bit}
use Rattle.sheets.proofs.put.bit.Goals as goal

pub returns-clause-bit : goal.returns-clause-bit
returns-clause-bit c =
    let read : c.unwrap_or.result ≡ get_or c.args.message.now c.args.i 0 = search rules in
    omega (arith, read, leb-true _ 1 (all_get_or is_bit c.args.message.now 0 c.args.i refl c.requires))
