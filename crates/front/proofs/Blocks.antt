-- The block's readings one by one: how the report and the symbols grow by one reading, for the loop over a block; and where the run of
-- finite readings ends, for the test before it. Assumes nothing.
use mathlib.Core.Path.{◌≡◌, refl, ap}
use mathlib.Core.Bool.{Bool, true, false, cond, not}
use mathlib.Core.List.{List, [], ◌∷◌, ◌++◌, map}
use Prim.Native.Nat.{ℕ, zero, suc, ◌+◌, ◌<◌, ◌≤◌}
use native.Mathlib.Numerals.{add-one}
use native.Mathlib.Omega.{arith}
use lib.Dec.{T}
use lib.Ieee as Ieee
use lib.Ieee.{Float, nan}
use lib.Ieee.Scale.{finite}
use lib.IntN.{ℤ}
use lib.ListN.{length, get_or, set, take, drop, drop_of_length-le}
use lib.Seq.{drop-cons}
use Rattle.std.specs.Float.{float_is_finite}
use Rattle.std.specs.List.{position_or_len}
use Rattle.std.proofs.lemmas.Int.{to_z-of_z}
use Rattle.std.proofs.lemmas.List.Recursion.{is_position_or_len}
use Rattle.front.specs.Reports.{updated, updated_all, report_of}
use Rattle.front.specs.Fronting.{finite_run}
use Rattle.front.specs.declared.Report.{Report}
use Rattle.front.proofs.Choices.{cond_in}
use Rattle.front.proofs.Numbers.{finite_is}

-- ---- the report

-- for the loop's start: the first reading, seen again, changes nothing
pub seen_first : (readings : List Float) → 0 < length readings
    → updated_all (record { lowest = get_or readings 0 nan; highest = get_or readings 0 nan }) readings ≡ report_of readings
unfolding updated_all report_of
seen_first [] h = absurd (omega arith)
seen_first (x ∷ xs) h = rw (cond_in (λ (y : Float). y ≡ x) (Ieee.lt x x) x x (λ _. refl) (λ _. refl))

-- for a turn of the loop
pub seen_next : (report : Report) (readings : List Float) (i : ℕ) → i < length readings
    → updated_all report (drop i readings) ≡ updated_all (updated report (get_or readings i nan)) (drop (i + 1) readings)
unfolding updated_all
seen_next report readings i h = rw (drop-cons readings i nan h, add-one)

-- for the loop's end
pub seen_done : (report : Report) (readings : List Float) (i : ℕ) → length readings ≤ i → updated_all report (drop i readings) ≡ report
unfolding updated_all
seen_done report readings i h = rw (drop_of_length-le readings h)

-- ---- the symbols

-- for a turn of the loop: one more symbol stands before what is left of the buffer
pub written_next : (f : Float → ℤ) (readings : List Float) (symbols : List ℤ) (i : ℕ) → i < length readings → length readings ≤ length symbols
    → set (map f (take i readings) ++ drop i symbols) i (f (get_or readings i nan)) ≡ map f (take (i + 1) readings) ++ drop (i + 1) symbols
written_next f [] symbols i h room = absurd (omega arith)
written_next f (x ∷ xs) [] i h room = absurd (omega arith)
written_next f (x ∷ xs) (y ∷ ys) zero h room = refl
written_next f (x ∷ xs) (y ∷ ys) (suc i) h room =
    rw add-one (ap (λ (more : List ℤ). f x ∷ more) (rw add-one at (written_next f xs ys i (omega arith) (omega arith))))

-- ---- the run of finite readings

-- it ends where `position` finds the first that is not finite
pub run_is : (readings : List Float) → finite_run readings ≡ position_or_len (λ x. not (float_is_finite x)) readings
unfolding finite_run
run_is readings = is_position_or_len finite_run (λ x. not (float_is_finite x)) refl (λ x xs. rw finite_is (step (finite x) (finite_run xs))) readings
  where
    step : (first : Bool) (run : ℕ) → cond first (suc run) 0 ≡ cond (not first) 0 (1 + run)
    step true run = omega arith
    step false run = refl

-- for an index that is not below the block's length: then it is that length
pub run_le : (readings : List Float) → finite_run readings ≤ length readings
unfolding finite_run
run_le [] = omega arith
run_le (x ∷ xs) =
    let rest = run_le xs in
    cond_in (λ (n : ℕ). n ≤ suc (length xs)) (finite x) (suc (finite_run xs)) 0 (λ _. omega arith) (λ _. omega arith)

-- a run over the whole block takes its first reading, and then runs over the rest
pub whole_next : (first : Bool) (run size : ℕ) → cond first (suc run) 0 ≡ suc size → T first × (run ≡ size)
whole_next true run size e = (tt, omega arith)
whole_next false run size e = absurd (omega arith)

-- for each reading that is made a symbol
pub finite_at : (readings : List Float) (i : ℕ) → finite_run readings ≡ length readings → i < length readings → T (finite (get_or readings i nan))
unfolding finite_run
finite_at [] i whole h = absurd (omega arith)
finite_at (x ∷ xs) zero whole h = (whole_next (finite x) (finite_run xs) (length xs) whole).0
finite_at (x ∷ xs) (suc i) whole h = finite_at xs i (whole_next (finite x) (finite_run xs) (length xs) whole).1 (omega arith)

-- for the code's loop over a block
pub ruleset block = (seen_first, seen_next, seen_done, written_next, finite_at, to_z-of_z)

-- for the code's test of a block
pub ruleset tested = (run_is, run_le)
