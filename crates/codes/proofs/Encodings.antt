-- Two results of `encode` that its contract allows for one input are equal. Assumes nothing.
use mathlib.Core.Path.{◌≡◌, refl, sym, ◌∙◌}
use mathlib.Core.List.{List}
use Prim.Native.Nat.{ℕ}
use Rattle.std.specs.Prelude.{Result}
use Rattle.desk.specs.declared.Refusal.{Refusal}
use Rattle.desk.proofs.Pinned.{Tells, told_alike}
use Rattle.codes.specs.Encoding.{encoded, told, encoding}
use Rattle.codes.specs.declared.table.Code.{Code}

-- N tells the answer
tells : Tells encoded (λ r. r.size)
tells = record { done = (λ n. refl); read = (λ n. refl) }

-- Two results that the contract of `encode` allows for one input are equal: the answer and every byte of the buffer.
pub encode_pinned : (c : Code) (message out : List ℕ) (r r' : Result ℕ Refusal) (exit exit' : List ℕ)
    → told r exit ≡ encoding c message out → told r' exit' ≡ encoding c message out → (r ≡ r') × (exit ≡ exit')
encode_pinned c message out r r' exit exit' h h' = told_alike tells r r' exit exit' (h ∙ sym h')
