-- The front end that a form of the caller's struct stands for, as the program makes it. Not believed: no contract of the six functions cites
-- it. Assumes nothing.
use Rattle.std.specs.Prelude.{cond, eqb}
use Rattle.front.specs.Symbols.{plus_zero}
use Rattle.front.specs.declared.FrontEnd as front
use Rattle.front.specs.declared.FrontEnd.TheVariants.{Gain, Offset, Threshold}
use Rattle.plumtassel.specs.declared.FrontEnd.{FrontEnd}

-- the front end of a form; a gain of zero stands for a form that there is none of
abbrev pub choice : FrontEnd → front.FrontEnd
choice f =
    cond (eqb f.form 0) (Gain f.gain)
    (cond (eqb f.form 1) (Offset f.offset f.gain)
    (cond (eqb f.form 2) (Threshold f.threshold)
    (Gain plus_zero)))
