-- Two results of `front` that its contract allows for one input are equal. Assumes nothing.
use mathlib.Core.Path.{◌≡◌, refl, sym, ap, ◌∙◌}
use mathlib.Core.List.{List}
use Prim.Native.Nat.{ℕ, zero, suc}
use lib.IntN.{ℤ}
use lib.Ieee.{Float}
use Rattle.std.proofs.Common.{Result, Ok, Err}
use Rattle.front.specs.Fronting.{Fronting, told, fronting}
use Rattle.front.specs.declared.FrontEnd.{FrontEnd}
use Rattle.front.specs.declared.Report.{Report}
use Rattle.front.specs.declared.Fronted.{Fronted}
use Rattle.front.specs.declared.FrontError.{FrontError}
use Rattle.front.specs.declared.FrontError.TheVariants.{BadSize, Malformed, NotFinite}

-- the answer, read back off the paper's number and values
answer_of : Fronting → Result Fronted FrontError
answer_of f = read f.number f.count f.index (record { lowest = f.lowest; highest = f.highest })
  where
    read : (number count index : ℕ) → Report → Result Fronted FrontError
    read zero count index report = Ok (record { count = count; report = report })
    read (suc (suc (suc (suc (suc (suc zero)))))) count index report = Err Malformed
    read (suc (suc (suc (suc (suc (suc (suc k))))))) count index report = Err (NotFinite index)
    read _ count index report = Err BadSize

answer_of_told : (r : Result Fronted FrontError) (symbols : List ℤ) → answer_of (told r symbols) ≡ r
unfolding told answer_of
answer_of_told (Ok fronted) symbols = refl
answer_of_told (Err BadSize) symbols = refl
answer_of_told (Err Malformed) symbols = refl
answer_of_told (Err (NotFinite index)) symbols = refl

symbols_told : (r : Result Fronted FrontError) (symbols : List ℤ) → (told r symbols).symbols ≡ symbols
unfolding told
symbols_told (Ok fronted) symbols = refl
symbols_told (Err BadSize) symbols = refl
symbols_told (Err Malformed) symbols = refl
symbols_told (Err (NotFinite index)) symbols = refl

-- Two results that the contract of `front` allows for one input are equal: the answer and every symbol of the buffer.
pub front_pinned : (front_end : FrontEnd) (readings : List Float) (symbols : List ℤ) (r r' : Result Fronted FrontError) (exit exit' : List ℤ)
    → told r exit ≡ fronting front_end readings symbols → told r' exit' ≡ fronting front_end readings symbols → (r ≡ r') × (exit ≡ exit')
front_pinned front_end readings symbols r r' exit exit' h h' =
    let e : told r exit ≡ told r' exit' = h ∙ sym h' in (
      sym (answer_of_told r exit) ∙ ap answer_of e ∙ answer_of_told r' exit',
      sym (symbols_told r exit) ∙ ap (λ (x : Fronting). x.symbols) e ∙ symbols_told r' exit',
    )
