-- Every block that is answered with a sheet has one that the check accepts, in the contracts' own definitions: the bytes that were written,
-- checked for the same block, give the same metric and the same message. Of any kind of block, and of symbols. Assumes nothing.
use mathlib.Core.Path.{◌≡◌, refl, sym, ap, ◌∙◌, subst}
use mathlib.Core.List.{List, ◌++◌}
use mathlib.Core.Bool.{Bool, true}
use Prim.Native.Nat.{ℕ, ◌^◌, ◌≤◌, ◌<◌}
use native.Mathlib.Decide.{ℕ_discrete, dec_lt}
use native.Mathlib.Omega.{arith}
use borrow.Author.Tests.{lt-ltb, le-ltb, ne_eqb}
use mir.Syntax.{w8}
use mir.Val.{SFits}
use lib.IntN.{ℤ}
use lib.ListN.{length, take, drop}
use lib.Seq.{take_at}
use Rattle.std.proofs.lemmas.Bool.Decides.{nat_tests}
use Rattle.lists.proofs.Membership.{Every}
use Rattle.desk.specs.Desk.{Handed, handed, numbered, with_size}
use Rattle.codes.specs.declared.table.Code.{Code}
use Rattle.codes.specs.Codes.{lawful, block_length}
use Rattle.codes.specs.Limits.{longest_message}
use Rattle.trellis.specs.Trellis.{Trellis, top}
use Rattle.trellis.specs.Verdict.{steps, messages}
use Rattle.trellis.proofs.Messages.{metric_of, words_out}
use Rattle.trellis.proofs.Answered.{alone_paid, alone_in}
use Rattle.trellis.proofs.HonestRows.{length_answered}
use Rattle.blocks.specs.Symbols.{view}
use Rattle.blocks.specs.Blocks.{trellis_of}
use Rattle.search.specs.Limits.{largest_room}
use Rattle.search.specs.Decoding.{sizes_fit, decode_desk}
use Rattle.search.proofs.Answers.{answer, DeskAnswers, DeskAnswered, desk_answers_in, desk_answers_out}
use Rattle.sheets.specs.Bytes.{sheet_bytes, sheet_read}
use Rattle.sheets.specs.Checking.{formed, honest_sheet, accepted, check_desk, checking}
use Rattle.sheets.specs.Checking as check
use Rattle.sheets.proofs.HonestSheet.{Writable, code_writable, honest_desk}
use Rattle.writer.specs.Sheeting.{written, sheet_desk, sheeting}
use Rattle.writer.proofs.Sheetings.{sheet_answered}

-- ---- any decode with a sheet

module _ (rules sizes form : Bool) (t : Trellis) (room allowance : ℕ) (message sheet : List ℕ) where
  abbrev desk : Handed (List ℕ × List ℕ)
  desk = sheet_desk rules sizes form t room allowance message sheet

  -- it answers only what the decode answers
  decoded : desk.reply.number ≡ 0 → (decode_desk rules sizes form t room allowance message).reply.number ≡ 0
  unfolding sheet_desk
  decoded z = go (ℕ_discrete (decode_desk rules sizes form t room allowance message).reply.number 0)
    where
      go : Dec ((decode_desk rules sizes form t room allowance message).reply.number ≡ 0)
          → (decode_desk rules sizes form t room allowance message).reply.number ≡ 0
      go (yes e) = e
      go (no d) = rw (ne_eqb (decode_desk rules sizes form t room allowance message).reply.number 0 d) at z

  -- what it hands back of an answer w
  module _ {w : List ℕ} (a : DeskAnswers rules sizes form t room allowance message w) where
    -- the message has L bits
    length_answer : length w ≡ t.span
    unfolding messages
    length_answer = (words_out t.inputs t.span a.answerable.alone.member).length

    abbrev exit : List ℕ
    exit = w ++ drop t.span message

    -- and stands in front of its buffer
    front : take t.span exit ≡ w
    front = take_at w (drop t.span message) t.span length_answer

    -- the sheet's own bytes
    abbrev bytes : List ℕ
    bytes = sheet_bytes t.span (honest_sheet t w)

    -- metric and steps, with the sheet's size, and both buffers
    abbrev done : Handed (List ℕ × List ℕ)
    done = handed (with_size (length bytes) (answer (metric_of t w) (steps t) exit).reply) (exit, bytes ++ drop (length bytes) sheet)

    -- so the whole answer is known
    whole : desk.reply.number ≡ 0 → desk ≡ done
    unfolding written
    whole z = go (dec_lt (length sheet) (length bytes))
      where
        given : desk ≡ written bytes message sheet (answer (metric_of t w) (steps t) exit)
        given =
            sym (sheet_answered rules sizes form t room allowance message sheet {f = record { metric = metric_of t w; steps = steps t }}
            (sym (desk_answers_in rules sizes form t room allowance message a)))
            ∙ ap (λ (v : List ℕ). written (sheet_bytes t.span (honest_sheet t v)) message sheet (answer (metric_of t w) (steps t) exit)) front

        go : Dec (length sheet < length bytes) → desk ≡ done
        go (yes h) =
            let short : desk ≡ handed (with_size (length bytes) (numbered 9)) (message, sheet) = given ∙ rw (lt-ltb (length sheet) (length bytes) h) in
            let n : ◌≡◌ {A = ℕ} 9 0 = sym (ap (λ (x : Handed (List ℕ × List ℕ)). x.reply.number) short) ∙ z in
            absurd (omega arith)
        go (no h) = given ∙ rw (le-ltb (length sheet) (length bytes) (omega arith))

  -- Every sheet that is written is accepted: the check, for the same block and any buffer, gives the metric that was given and writes the
  -- message that was written.
  pub written_desk : (states : ℕ) → Writable t states → room ≤ largest_room → (sized : Bool) → sized ≡ true → desk.reply.number ≡ 0
      → (buffer : List ℕ) → let own = take desk.reply.size desk.buffers.1 in
      check_desk rules sized (formed t.span (top t) states own) t (sheet_read t.span own) buffer
      ≡ handed (accepted desk.reply.metric) (take t.span desk.buffers.0 ++ drop t.span buffer)
  written_desk states fit small sized fits z buffer = go (desk_answers_out rules sizes form t room allowance message (decoded z))
    where
      checked : List ℕ → Handed (List ℕ)
      checked own = check_desk rules sized (formed t.span (top t) states own) t (sheet_read t.span own) buffer

      go : DeskAnswered rules sizes form t room allowance message
          → checked (take desk.reply.size desk.buffers.1) ≡ handed (accepted desk.reply.metric) (take t.span desk.buffers.0 ++ drop t.span buffer)
      go d =
          let w : List ℕ = d.word in
          let a = d.answers in
          let few = length_answered fit.law room a.answerable.roomy in
          subst
          (λ (r : Handed (List ℕ × List ℕ)). checked (take r.reply.size r.buffers.1)
          ≡ handed (accepted r.reply.metric) (take t.span r.buffers.0 ++ drop t.span buffer))
          (sym (whole a z))
          (ap checked (take_at (bytes a) (drop (length (bytes a)) sheet) (length (bytes a)) refl)
          ∙ honest_desk t states w fit (record { one = alone_in a.answerable.alone; few = omega (arith, few, small) }) rules sized a.kept fits buffer
          ∙ (λ i. handed (accepted (sym (alone_paid a.answerable.alone) i)) (sym (front a) i ++ drop t.span buffer)))

-- ---- symbols

-- what a call has by its types: symbols of 8 bits, and an array with a generator for every output
pub record Typed (c : Code) (symbols : List ℤ) : Type 0 where
  pub bytes : Every (SFits w8) symbols
  pub full : c.outputs ≤ length c.generators

module _ (c : Code) (l : ℕ) (symbols : List ℤ) (room allowance words : ℕ) (message sheet : List ℕ) where
  abbrev t : Trellis
  t = trellis_of c l (view symbols)

  -- Every sheet that is written is accepted: the check, for the same code, L and symbols and any buffer that holds L bytes, gives the
  -- metric that was given and writes the message that was written.
  pub written_accepted : Typed c symbols → let d = sheeting c l symbols room allowance words message sheet in d.reply.number ≡ 0
      → (buffer : List ℕ) → l ≤ length buffer
      → checking c l symbols (take d.reply.size d.buffers.1) buffer
      ≡ handed (accepted d.reply.metric) (take l d.buffers.0 ++ drop l buffer)
  unfolding sheeting checking
  written_accepted h z buffer k =
      let tests = (desk_answers_out _ _ true t room allowance message (decoded _ _ true t room allowance message sheet z)).answers in
      let long : l ≤ longest_message = grind (arith, nat_tests, tests.stated) in
      let small : room ≤ largest_room = grind (arith, nat_tests, tests.stated) in
      let size : length symbols ≡ block_length c l = grind (arith, nat_tests, tests.stated) in
      let fits : check.sizes_fit c l (length symbols) (length buffer) ≡ true = grind (arith, nat_tests, tests.stated) in
      written_desk (lawful c) (sizes_fit c l (length symbols) room words (length message)) true t room allowance message sheet (2 ^ c.memory)
      (code_writable (record { code = tests.kept; span = long; size = size; bytes = h.bytes; full = h.full })) small
      (check.sizes_fit c l (length symbols) (length buffer)) fits z buffer
