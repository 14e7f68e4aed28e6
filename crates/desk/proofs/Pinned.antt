-- What is told has one reading: of two answers that are told alike, refusals included, the values are the same, and so are the buffers.
-- For every operation's theorem that two results allowed for one input are equal. Assumes nothing.
use mathlib.Core.Path.{◌≡◌, refl, sym, ap, ◌∙◌}
use Prim.Native.Nat.{ℕ, zero, suc}
use Rattle.std.specs.Prelude.{Result, Ok, Err}
use Rattle.desk.specs.Desk.{Reply, Handed, refused, told_by}
use Rattle.desk.specs.declared.Refusal.{Refusal}
use Rattle.desk.specs.declared.Refusal.TheVariants.{BadCode, BadSize, NoRoom, NoAllowance, Tied, Malformed, NotCarried, NoSheetRoom}

-- an operation's answer is told under number 0, and its values tell it
pub record Tells {Answer : Type 0} (answered : Answer → Reply) (back : Reply → Answer) : Type 0 where
  pub done : (a : Answer) → (answered a).number ≡ 0
  pub read : (a : Answer) → back (answered a) ≡ a

-- the answer, read back off the number and the values
read_by : {Answer : Type 0} → (Reply → Answer) → ℕ → Reply → Result Answer Refusal
read_by back zero r = Ok (back r)
read_by back (suc zero) r = Err BadCode
read_by back (suc (suc zero)) r = Err BadSize
read_by back (suc (suc (suc zero))) r = Err (NoRoom r.steps)
read_by back (suc (suc (suc (suc zero)))) r = Err (NoAllowance r.steps)
read_by back (suc (suc (suc (suc (suc zero))))) r = Err (Tied r.metric r.steps)
read_by back (suc (suc (suc (suc (suc (suc zero)))))) r = Err Malformed
read_by back (suc (suc (suc (suc (suc (suc (suc zero))))))) r = Err NotCarried
read_by back (suc (suc (suc (suc (suc (suc (suc (suc k)))))))) r = Err (NoSheetRoom r.size)

module _ {Answer Buffers : Type 0} {answered : Answer → Reply} {back : Reply → Answer} (tells : Tells answered back) where
  -- it is the one that was told
  read_told : (r : Result Answer Refusal) (buffers : Buffers)
      → let h = told_by answered r buffers in read_by back h.reply.number h.reply ≡ r
  unfolding told_by refused read_by
  read_told (Ok a) buffers = ap (λ (n : ℕ). read_by back n (answered a)) (tells.done a) ∙ ap Ok (tells.read a)
  read_told (Err BadCode) buffers = refl
  read_told (Err BadSize) buffers = refl
  read_told (Err (NoRoom steps)) buffers = refl
  read_told (Err (NoAllowance steps)) buffers = refl
  read_told (Err (Tied metric steps)) buffers = refl
  read_told (Err Malformed) buffers = refl
  read_told (Err NotCarried) buffers = refl
  read_told (Err (NoSheetRoom bytes)) buffers = refl

  -- and the buffers are told as they are
  buffers_told : (r : Result Answer Refusal) (buffers : Buffers) → (told_by answered r buffers).buffers ≡ buffers
  unfolding told_by
  buffers_told (Ok a) buffers = refl
  buffers_told (Err why) buffers = refl

  -- Told alike, the answers are the same, and the buffers too.
  pub told_alike : (r r' : Result Answer Refusal) (exit exit' : Buffers) → told_by answered r exit ≡ told_by answered r' exit'
      → (r ≡ r') × (exit ≡ exit')
  told_alike r r' exit exit' e = (
    sym (read_told r exit) ∙ ap (λ (h : Handed Buffers). read_by back h.reply.number h.reply) e ∙ read_told r' exit',
    sym (buffers_told r exit) ∙ ap (λ (h : Handed Buffers). h.buffers) e ∙ buffers_told r' exit',
  )
