-- The report of a block: document 01, 'With the symbols goes a report of the lowest and highest reading; of equal ones the first seen.'
-- Believed. Of the two zeros neither is lower, so the sign of a zero in the report is that of the first seen. Assumes nothing.
use Rattle.std.specs.Prelude.{cond, List, [], ◌∷◌, Float}
use Rattle.std.specs.Float.Ieee as Ieee
use Rattle.front.specs.Symbols.{plus_zero}
use Rattle.front.specs.declared.Report.{Report}

-- where there is none: 'Values not named in a row are 0.'
abbrev pub no_report : Report
no_report = record { lowest = plus_zero; highest = plus_zero }

-- after one more reading: only a lower or a higher one takes the place of what was seen before
abbrev pub updated : Report → Float → Report
updated report reading =
    record {
      lowest = cond (Ieee.lt reading report.lowest) reading report.lowest;
      highest = cond (Ieee.lt report.highest reading) reading report.highest;
    }

-- and after many, in the order in which they are read
unfoldable pub updated_all : Report → List Float → Report
updated_all report [] = report
updated_all report (reading ∷ readings) = updated_all (updated report reading) readings

-- The first reading is at first the lowest and the highest. (A block has one.)
unfoldable pub report_of : List Float → Report
report_of [] = no_report
report_of (reading ∷ readings) = updated_all (record { lowest = reading; highest = reading }) readings
