-- Laws of what `decode` hands back: the tests that failed, and that two results allowed for one input are equal. Assumes nothing.
use mathlib.Core.Path.{◌≡◌, refl, sym, ap, ◌∙◌}
use mathlib.Core.List.{List}
use mathlib.Core.Bool.{true}
use Prim.Native.Nat.{ℕ}
use lib.IntN.{ℤ}
use lib.ListN.{length}
use Rattle.std.specs.Prelude.{Result}
use Rattle.desk.specs.Desk.{Handed, handed, refused, tested}
use Rattle.desk.specs.declared.Refusal.{Refusal}
use Rattle.desk.proofs.Pinned.{Tells, told_alike}
use Rattle.desk.proofs.Rows.{tested_rules, tested_sizes, tested_onward}
use Rattle.codes.specs.Codes.{lawful}
use Rattle.codes.specs.declared.table.Code.{Code}
use Rattle.codes.specs.declared.table.LawfulCode.{LawfulCode}
use Rattle.search.specs.Decoding.{found, told, sizes_fit, decoding}
use Rattle.search.specs.Work.{Passed, Failed, outside, missized}
use Rattle.search.specs.declared.seen.Found.{Found}

-- ---- the tests

module _ {c : Code} {l symbols room words buffer : ℕ} where
  -- a test that failed is told, whatever would have followed
  pub failed_told : {why : Refusal} {Buffers : Type 0} (buffers : Buffers) (onward : Handed Buffers)
      → Failed c l symbols room words buffer why
      → handed (refused why) buffers ≡ tested (lawful c) (sizes_fit c l symbols room words buffer) true buffers onward
  unfolding refused
  failed_told buffers onward (outside h) = sym (tested_rules (lawful c) (sizes_fit c l symbols room words buffer) true buffers onward h)
  failed_told buffers onward (missized h k) = sym (tested_sizes (lawful c) (sizes_fit c l symbols room words buffer) true buffers onward h k)

  -- past them what follows is told
  pub passed_told : {kept : LawfulCode} {Buffers : Type 0} (buffers : Buffers) (onward : Handed Buffers)
      → Passed c l symbols room words buffer kept
      → onward ≡ tested (lawful c) (sizes_fit c l symbols room words buffer) true buffers onward
  passed_told {kept} buffers onward p =
      sym (tested_onward (lawful c) (sizes_fit c l symbols room words buffer) true buffers onward (ap lawful (sym p.code) ∙ kept.rules) p.fits refl)

-- ---- pinned down

-- metric and steps tell the answer
tells : Tells found (λ r. record { metric = r.metric; steps = r.steps })
tells = record { done = (λ f. refl); read = (λ f. refl) }

-- Two results that the contract of `decode` allows for one input are equal: the answer and every byte of the message buffer. The two
-- calls may be lent working memory that holds different words, if only there are as many.
pub decode_pinned : (c : Code) (l : ℕ) (symbols : List ℤ) (room allowance : ℕ) (message : List ℕ)
    → (work work' : List ℕ) → length work ≡ length work' → (r r' : Result Found Refusal) (exit exit' : List ℕ)
    → told r exit ≡ decoding c l symbols room allowance (length work) message
    → told r' exit' ≡ decoding c l symbols room allowance (length work') message
    → (r ≡ r') × (exit ≡ exit')
decode_pinned c l symbols room allowance message work work' as_many r r' exit exit' h h' =
    told_alike tells r r' exit exit'
    (h ∙ ap (λ (words : ℕ). decoding c l symbols room allowance words message) as_many ∙ sym h')
