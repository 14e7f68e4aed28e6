-- Whatever comes in, the two floats that are handed back are finite: on a refusal they are +0.0, and a report is made only of a block
-- whose readings all are. So no NaN leaves `front`, and equal reports have equal bits. Assumes nothing.
use mathlib.Core.Path.{◌≡◌, sym, ap, ◌∙◌}
use mathlib.Core.Bool.{not}
use mathlib.Core.List.{List, [], ◌∷◌}
use native.Mathlib.Nat.{le_antisymm}
use borrow.Author.Tests.{ltb-false}
use lib.Dec.{T, ltb}
use lib.IntN.{ℤ}
use lib.ListN.{length}
use lib.Ieee as Ieee
use lib.Ieee.{Float, binary32}
use lib.Ieee.Bits.{of_bits-to_bits}
use lib.Ieee.Scale.{finite}
use Rattle.front.specs.Symbols.{good}
use Rattle.front.specs.Reports.{updated, updated_all, report_of}
use Rattle.front.specs.Fronting.{Fronting, sizes_fit, finite_run, fronting}
use Rattle.front.specs.declared.FrontEnd.{FrontEnd}
use Rattle.front.specs.declared.Report.{Report}
use Rattle.front.proofs.Blocks.{run_le, whole_next}
use Rattle.front.proofs.Choices.{cond_in}

-- what is shown of the two floats of a report
abbrev Finite : Float → Float → Type 0
Finite lowest highest = T (finite lowest) × T (finite highest)

-- ---- a report of finite readings

-- for the step from a report to that of more readings
updated_finite : (report : Report) (readings : List Float) → Finite report.lowest report.highest → finite_run readings ≡ length readings
    → Finite (updated_all report readings).lowest (updated_all report readings).highest
unfolding updated_all finite_run
updated_finite report [] h whole = h
updated_finite report (x ∷ xs) h whole =
    let more = whole_next (finite x) (finite_run xs) (length xs) whole in
    let lowest = cond_in (λ (y : Float). T (finite y)) (Ieee.lt x report.lowest) x report.lowest (λ _. more.0) (λ _. h.0) in
    let highest = cond_in (λ (y : Float). T (finite y)) (Ieee.lt report.highest x) x report.highest (λ _. more.0) (λ _. h.1) in
    updated_finite (updated report x) xs (lowest, highest) more.1

-- for a block that passed every test
report_finite : (readings : List Float) → finite_run readings ≡ length readings → Finite (report_of readings).lowest (report_of readings).highest
unfolding report_of finite_run Ieee.of_bits
report_finite [] whole = (tt, tt)
report_finite (x ∷ xs) whole =
    let more = whole_next (finite x) (finite_run xs) (length xs) whole in
    updated_finite (record { lowest = x; highest = x }) xs (more.0, more.0) more.1

-- ---- what is handed back

abbrev FiniteReport : Fronting → Type 0
FiniteReport f = Finite f.lowest f.highest

-- whatever comes in
pub handed_back_finite : (front_end : FrontEnd) (readings : List Float) (symbols : List ℤ) → FiniteReport (fronting front_end readings symbols)
unfolding fronting Ieee.of_bits
handed_back_finite front_end readings symbols =
    cond_in FiniteReport (not (sizes_fit (length readings) (length symbols))) _ _ (λ _. (tt, tt))
    (λ _. cond_in FiniteReport (not (good front_end)) _ _ (λ _. (tt, tt))
    (λ _. cond_in FiniteReport (ltb (finite_run readings) (length readings)) _ _ (λ _. (tt, tt))
    (λ passed. report_finite readings (le_antisymm (run_le readings) (ltb-false (finite_run readings) (length readings) passed)))))

-- two single-precision floats with the same bits are the same value
pub bits_tell : (x y : Float) → T (Ieee.fits binary32 x) → T (Ieee.fits binary32 y) → Ieee.to_bits binary32 x ≡ Ieee.to_bits binary32 y → x ≡ y
bits_tell x y p q e = sym (of_bits-to_bits binary32 x p) ∙ ap (Ieee.of_bits binary32) e ∙ of_bits-to_bits binary32 y q
