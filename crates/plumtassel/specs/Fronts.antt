-- What the front end's struct means, and how its report is handed back. Believed, after front's Fronting. Assumes nothing.
use Rattle.std.specs.Prelude.{List, cond, not, eqb, ℤ, length, Float}
use Rattle.front.specs.Reports.{no_report}
use Rattle.front.specs.Fronting.{Fronting, handed, sizes_fit, fronting}
use Rattle.front.specs.declared.FrontEnd.TheVariants.{Gain, Offset, Threshold}
use Rattle.plumtassel.specs.declared.FrontEnd.{FrontEnd}
use Rattle.plumtassel.specs.declared.Report.{Report}

-- 'A front end is one of three: a gain; an offset and a gain; or a bare threshold': forms 0, 1 and 2; what the form lacks is ignored.
-- Another form is a 'bad front end': refused 6, after the sizes.
unfoldable pub struct_fronting : FrontEnd → List Float → List ℤ → Fronting
struct_fronting f readings symbols =
    cond (eqb f.form 0) (fronting (Gain f.gain) readings symbols)
    (cond (eqb f.form 1) (fronting (Offset f.offset f.gain) readings symbols)
    (cond (eqb f.form 2) (fronting (Threshold f.threshold) readings symbols)
    (cond (not (sizes_fit (length readings) (length symbols))) (handed 2 0 0 no_report symbols)
    (handed 6 0 0 no_report symbols))))

-- what the front end hands back, and the symbol buffer: it 'writes one symbol for each reading and gives their number with its report'
abbrev pub reported : Fronting → Report × List ℤ
reported f = (record { number = f.number; count = f.count; index = f.index; lowest = f.lowest; highest = f.highest }, f.symbols)
