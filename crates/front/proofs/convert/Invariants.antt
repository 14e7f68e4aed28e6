-- `front::convert` meets its contract. The symbols of the readings that are passed stand before what the buffer held, and the report,
-- with the readings that are left, comes to the report of the block. Assumes nothing.
use mathlib.Core.Path.{◌≡◌}
use mathlib.Core.List.{◌++◌, map}
use lib.ListN.{take, drop}
use Rattle.front.specs.Symbols.{symbol_of}
use Rattle.front.specs.Reports.{updated_all, report_of}
use Rattle.front.proofs.convert.Given as goal

abbrev pub invariant-loop-i : goal.invariant-loop-i
invariant-loop-i l =
    record {
      written : l.symbols ≡ map (symbol_of l.front_end) (take l.i l.readings) ++ drop l.i l.initial.symbols;
      reported : updated_all l.report (drop l.i l.readings) ≡ report_of l.readings;
    }
