-- Two results that the contract of `check` allows for one input are equal. Assumes nothing.
use mathlib.Core.Path.{◌≡◌, refl, sym, ◌∙◌}
use mathlib.Core.List.{List}
use Prim.Native.Nat.{ℕ}
use lib.IntN.{ℤ}
use Rattle.std.specs.Prelude.{Result}
use Rattle.desk.specs.Desk.{Handed}
use Rattle.desk.specs.declared.Refusal.{Refusal}
use Rattle.desk.proofs.Pinned.{Tells, told_alike}
use Rattle.codes.specs.declared.table.Code.{Code}
use Rattle.sheets.specs.Checking.{accepted, told, checking}

-- M tells the answer
tells : Tells accepted (λ r. r.metric)
tells = record { done = (λ m. refl); read = (λ m. refl) }

-- The answer and every byte of the message buffer are pinned down, whatever is asked. The check is lent no working memory.
pub told_pinned : (answer : Handed (List ℕ)) (r r' : Result ℕ Refusal) (exit exit' : List ℕ) → told r exit ≡ answer → told r' exit' ≡ answer
    → (r ≡ r') × (exit ≡ exit')
told_pinned answer r r' exit exit' h h' = told_alike tells r r' exit exit' (h ∙ sym h')

-- so of symbols
pub check_pinned : (c : Code) (l : ℕ) (symbols : List ℤ) (bytes message : List ℕ) (r r' : Result ℕ Refusal) (exit exit' : List ℕ)
    → told r exit ≡ checking c l symbols bytes message → told r' exit' ≡ checking c l symbols bytes message → (r ≡ r') × (exit ≡ exit')
check_pinned c l symbols bytes message = told_pinned (checking c l symbols bytes message)
