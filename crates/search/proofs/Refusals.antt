-- An answer that is an error is a refusal: it is no answer with a message, whatever the metric and the steps. Assumes nothing.
use mathlib.Core.Path.{◌≡◌, sym, ap, ◌∙◌}
use mathlib.Core.Bool.{true, true≢false}
use Prim.Native.Nat.{ℕ}
use Rattle.std.specs.Prelude.{Result, Ok, is_err}
use Rattle.search.specs.declared.seen.Found.{Found}
use Rattle.desk.specs.declared.Refusal.{Refusal}

-- for the arm of `else` of a decode's outcome
pub refused_tag : (r : Result Found Refusal) → is_err r ≡ true → (metric steps : ℕ) → r ≡ Ok (record { metric = metric; steps = steps }) → ⊥
refused_tag r e metric steps q = absurd (true≢false (sym e ∙ ap is_err q))
