-- The rows of the desk's order: the first test that fails is told, and past all three the rest decides. Assumes nothing.
use mathlib.Core.Path.{◌≡◌, refl}
use mathlib.Core.Bool.{Bool, true, false}
use Rattle.desk.specs.Desk.{Handed, numbered, handed, tested}

module _ {Buffers : Type 0} (rules sizes form : Bool) (buffers : Buffers) (onward : Handed Buffers) where
  -- 1: the code is outside the rules
  pub tested_rules : rules ≡ false → tested rules sizes form buffers onward ≡ handed (numbered 1) buffers
  unfolding tested
  tested_rules h = rw h refl

  -- 2: a size is not as stated
  pub tested_sizes : rules ≡ true → sizes ≡ false → tested rules sizes form buffers onward ≡ handed (numbered 2) buffers
  unfolding tested
  tested_sizes h k = rw (h, k) refl

  -- 6: the form is bad
  pub tested_form : rules ≡ true → sizes ≡ true → form ≡ false → tested rules sizes form buffers onward ≡ handed (numbered 6) buffers
  unfolding tested
  tested_form h k f = rw (h, k, f) refl

  -- past the tests
  pub tested_onward : rules ≡ true → sizes ≡ true → form ≡ true → tested rules sizes form buffers onward ≡ onward
  unfolding tested
  tested_onward h k f = rw (h, k, f) refl
