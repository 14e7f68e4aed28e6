-- What `front` answers and writes, for every input: document 01, 'When the desk says no' and 'From readings to symbols'.
-- Believed, after Symbols and Reports. Two floats are equal here only if they are the same number with the same sign, so -0 and +0
-- differ, as their bits do; every NaN is one value, and none is ever handed back (proofs/Reported.antt). Assumes nothing.
use Rattle.std.specs.Prelude.{List, [], ◌∷◌, ◌++◌, map, Bool, cond, not, ◌&&◌, ℕ, suc, ltb, leb, ℤ, length, drop, Float, Result, Ok, Err}
use Rattle.std.specs.Float.Ieee.Scale.{finite}
use Rattle.front.specs.Limits.{most_readings}
use Rattle.front.specs.Symbols.{good, symbol_of}
use Rattle.front.specs.Reports.{no_report, report_of}
use Rattle.front.specs.declared.FrontEnd.{FrontEnd}
use Rattle.front.specs.declared.Report.{Report}
use Rattle.front.specs.declared.Fronted.{Fronted}
use Rattle.front.specs.declared.FrontError.{FrontError}
use Rattle.front.specs.declared.FrontError.TheVariants.{BadSize, Malformed, NotFinite}

-- what the front end hands back: the paper's number, how many symbols, the index of a reading that is not finite, the report, and the
-- symbol buffer as it is then
pub record Fronting : Type 0 where
  pub number : ℕ
  pub count : ℕ
  pub index : ℕ
  pub lowest : Float
  pub highest : Float
  pub symbols : List ℤ

abbrev pub handed : (number count index : ℕ) → Report → List ℤ → Fronting
handed number count index report symbols =
    record { number = number; count = count; index = index; lowest = report.lowest; highest = report.highest; symbols = symbols }

-- the paper's number and values for each case of the answer
unfoldable pub told : Result Fronted FrontError → List ℤ → Fronting
told (Ok fronted) symbols = handed 0 fronted.count 0 fronted.report symbols
told (Err BadSize) symbols = handed 2 0 0 no_report symbols
told (Err Malformed) symbols = handed 6 0 0 no_report symbols
told (Err (NotFinite index)) symbols = handed 8 0 index no_report symbols

-- 'A block has 1 to 864 readings', and the symbol buffer has a place for each
abbrev pub sizes_fit : ℕ → ℕ → Bool
sizes_fit readings room = leb 1 readings && (leb readings most_readings && leb readings room)

-- 'index of the first such reading', one that is not finite, from 0; the number of readings if all are finite
unfoldable pub finite_run : List Float → ℕ
finite_run [] = 0
finite_run (reading ∷ readings) = cond (finite reading) (suc (finite_run readings)) 0

-- The refusals 2, 6, 8 in their order, where 'every output buffer is untouched'; then 'one symbol for each reading' and 'their number
-- with its report', the buffer's excess untouched.
unfoldable pub fronting : FrontEnd → List Float → List ℤ → Fronting
fronting front_end readings symbols =
    cond (not (sizes_fit (length readings) (length symbols))) (handed 2 0 0 no_report symbols)
    (cond (not (good front_end)) (handed 6 0 0 no_report symbols)
    (cond (ltb (finite_run readings) (length readings)) (handed 8 0 (finite_run readings) no_report symbols)
    (handed 0 (length readings) 0 (report_of readings) (map (symbol_of front_end) readings ++ drop (length readings) symbols))))
