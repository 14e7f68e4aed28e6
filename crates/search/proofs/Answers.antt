-- When a decode answers, in the reader's words: exactly if the code and the sizes are as stated, one message alone has the least metric,
-- E is at most B and D(E) at most R; then it gives that message, its metric and E. Of any decode, and of `decode`. Assumes nothing.
use mathlib.Core.Path.{◌≡◌, refl, sym, ap, ◌∙◌}
use mathlib.Core.List.{List, ◌++◌}
use mathlib.Core.Bool.{Bool, true, false}
use Prim.Native.Nat.{ℕ}
use native.Mathlib.Omega.{arith}
use lib.IntN.{ℤ}
use lib.ListN.{length, drop}
use Rattle.desk.specs.Desk.{Handed, numbered, with_metric, with_steps, handed}
use Rattle.desk.proofs.Rows.{tested_rules, tested_sizes, tested_form, tested_onward}
use Rattle.codes.specs.declared.table.Code.{Code}
use Rattle.codes.specs.Codes.{lawful}
use Rattle.trellis.specs.Trellis.{Trellis}
use Rattle.trellis.specs.Verdict.{Verdict, steps, answered, room_short, allowance_spent, tied, messages, verdict}
use Rattle.trellis.proofs.Messages.{metric_of, words_out}
use Rattle.trellis.proofs.Answered.{Answerable, answered_in, answered_out}
use Rattle.blocks.specs.Symbols.{view}
use Rattle.blocks.specs.Blocks.{trellis_of}
use Rattle.search.specs.Decoding.{sizes_fit, given, decode_desk, decoding}

-- metric and steps, handed back with number 0
abbrev pub answer : (metric steps : ℕ) → List ℕ → Handed (List ℕ)
answer metric steps message = handed (with_metric metric (with_steps steps (numbered 0))) message

-- ---- any decode

module _ (rules sizes form : Bool) (t : Trellis) (room allowance : ℕ) (message : List ℕ) where
  abbrev desk : Handed (List ℕ)
  desk = decode_desk rules sizes form t room allowance message

  -- what decides, past the tests
  pub desk_verdict : rules ≡ true → sizes ≡ true → form ≡ true → desk ≡ given (verdict t room allowance) message
  unfolding decode_desk
  desk_verdict h k f = tested_onward rules sizes form message (given (verdict t room allowance) message) h k f

  -- a number that is no test's is the verdict's
  pub beyond_tests : (desk.reply.number ≡ 1 → ⊥) → (desk.reply.number ≡ 2 → ⊥) → (desk.reply.number ≡ 6 → ⊥)
      → (rules ≡ true) × (sizes ≡ true) × (form ≡ true)
  unfolding decode_desk
  beyond_tests n1 n2 n6 = go rules sizes form refl refl refl
    where
      rest : Handed (List ℕ)
      rest = given (verdict t room allowance) message

      number : {x y : Handed (List ℕ)} → x ≡ y → x.reply.number ≡ y.reply.number
      number e = ap (λ (h : Handed (List ℕ)). h.reply.number) e

      go : (p q r : Bool) → rules ≡ p → sizes ≡ q → form ≡ r → (rules ≡ true) × (sizes ≡ true) × (form ≡ true)
      go false q r h k f = absurd (n1 (number (tested_rules rules sizes form message rest h)))
      go true false r h k f = absurd (n2 (number (tested_sizes rules sizes form message rest h k)))
      go true true false h k f = absurd (n6 (number (tested_form rules sizes form message rest h k f)))
      go true true true h k f = (h, k, f)

  -- a call that is answered with a message
  pub record DeskAnswers (w : List ℕ) : Type 0 where
    pub kept : rules ≡ true
    pub stated : sizes ≡ true
    pub formed : form ≡ true
    pub answerable : Answerable t room allowance w

  -- it gives the message, its metric and E
  pub desk_answers_in : {w : List ℕ} → DeskAnswers w → desk ≡ answer (metric_of t w) (steps t) (w ++ drop t.span message)
  unfolding given messages
  desk_answers_in {w} a =
      let long : length w ≡ t.span = (words_out t.inputs t.span a.answerable.alone.member).length in
      desk_verdict a.kept a.stated a.formed
      ∙ ap (λ (v : Verdict). given v message) (answered_in a.answerable)
      ∙ ap (λ (k : ℕ). answer (metric_of t w) (steps t) (w ++ drop k message)) long

  -- no other call has number 0
  pub record DeskAnswered : Type 0 where
    pub word : List ℕ
    pub answers : DeskAnswers word

  -- so where the number is 0, there is such a message
  pub desk_answers_out : desk.reply.number ≡ 0 → DeskAnswered
  unfolding given
  desk_answers_out z =
      let p = beyond_tests (λ e. omega arith) (λ e. omega arith) (λ e. omega arith) in
      let b = desk_verdict p.0 p.1 p.2 in
      here (verdict t room allowance) refl p.0 p.1 p.2 (ap (λ (h : Handed (List ℕ)). h.reply.number) (sym b) ∙ z)
    where
      here : (v : Verdict) → verdict t room allowance ≡ v → rules ≡ true → sizes ≡ true → form ≡ true → (given v message).reply.number ≡ 0
          → DeskAnswered
      here (answered w m done) e h k f z =
          record { word = w; answers = record { kept = h; stated = k; formed = f; answerable = (answered_out t room allowance w m done e).answerable } }
      here (room_short done) e h k f z = absurd (omega arith)
      here (allowance_spent done) e h k f z = absurd (omega arith)
      here (tied m done) e h k f z = absurd (omega arith)

-- ---- a decode of symbols

module _ (c : Code) (l : ℕ) (symbols : List ℤ) (room allowance words : ℕ) (message : List ℕ) where
  abbrev own : Trellis
  own = trellis_of c l (view symbols)

  -- a call that is answered with a message
  pub record Answers (w : List ℕ) : Type 0 where
    pub code : lawful c ≡ true
    pub sizes : sizes_fit c l (length symbols) room words (length message) ≡ true
    pub answerable : Answerable own room allowance w

  -- it gives the message, its metric and E
  pub answers_in : {w : List ℕ} → Answers w → decoding c l symbols room allowance words message ≡ answer (metric_of own w) (steps own) (w ++ drop l message)
  unfolding decoding
  answers_in a = desk_answers_in _ _ true own room allowance message (record { kept = a.code; stated = a.sizes; formed = refl; answerable = a.answerable })

  -- no other call has number 0
  pub record Answered : Type 0 where
    pub word : List ℕ
    pub answers : Answers word

  -- so where the number is 0, there is such a message
  pub answers_out : (decoding c l symbols room allowance words message).reply.number ≡ 0 → Answered
  unfolding decoding
  answers_out z =
      let d = desk_answers_out _ _ true own room allowance message z in
      record { word = d.word; answers = record { code = d.answers.kept; sizes = d.answers.stated; answerable = d.answers.answerable } }
