-- What holds of a choice by a test: what holds of either side, each under the test's own value. Assumes nothing.
use mathlib.Core.Path.{◌≡◌, refl}
use mathlib.Core.Bool.{Bool, true, false, cond}

pub cond_in : {A : Type 0} (P : A → Type 0) (test : Bool) (x y : A) → (test ≡ true → P x) → (test ≡ false → P y) → P (cond test x y)
cond_in P true x y p q = p refl
cond_in P false x y p q = q refl
