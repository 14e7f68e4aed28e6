-- Two results that the contract of `decode_sheet` allows for one input are equal. Assumes nothing.
use mathlib.Core.Path.{◌≡◌, refl, sym, ap, ◌∙◌}
use mathlib.Core.List.{List}
use Prim.Native.Nat.{ℕ}
use lib.IntN.{ℤ}
use lib.ListN.{length}
use Rattle.std.specs.Prelude.{Result}
use Rattle.desk.specs.declared.Refusal.{Refusal}
use Rattle.desk.proofs.Pinned.{Tells, told_alike}
use Rattle.codes.specs.declared.table.Code.{Code}
use Rattle.writer.specs.declared.seen.FoundSheet.{FoundSheet}
use Rattle.writer.specs.Sheeting.{found_sheet, told, sheeting}

-- metric, steps and size tell the answer
tells : Tells found_sheet (λ r. record { found = record { metric = r.metric; steps = r.steps }; bytes = r.size })
tells = record { done = (λ f. refl); read = (λ f. refl) }

-- The answer and every byte of both buffers are pinned down. The two calls may be lent working memory that holds different words, if
-- only there are as many.
pub decode_sheet_pinned : (c : Code) (l : ℕ) (symbols : List ℤ) (room allowance : ℕ) (message sheet : List ℕ)
    → (work work' : List ℕ) → length work ≡ length work' → (r r' : Result FoundSheet Refusal) (exit exit' out out' : List ℕ)
    → told r exit out ≡ sheeting c l symbols room allowance (length work) message sheet
    → told r' exit' out' ≡ sheeting c l symbols room allowance (length work') message sheet
    → (r ≡ r') × (exit ≡ exit') × (out ≡ out')
decode_sheet_pinned c l symbols room allowance message sheet work work' as_many r r' exit exit' out out' h h' =
    let moved = ap (λ (words : ℕ). sheeting c l symbols room allowance words message sheet) as_many in
    let e = told_alike tells r r' (exit, out) (exit', out') (h ∙ moved ∙ sym h') in
    (e.0, ap (λ (x : List ℕ × List ℕ). x.0) e.1, ap (λ (x : List ℕ × List ℕ). x.1) e.1)
