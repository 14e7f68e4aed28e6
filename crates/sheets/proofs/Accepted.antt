-- What acceptance proves, in the contract's own words: a sheet that the check accepts, whoever wrote it, has the only message of least
-- metric, and the metric given is that least metric. Once for any lawful trellis, then for the symbols of a code. That honest sheets are
-- accepted is in HonestSheet. Assumes nothing.
use mathlib.Core.Path.{◌≡◌, sym, ap, subst}
use mathlib.Core.List.{List, ◌++◌}
use mathlib.Core.Bool.{Bool}
use Prim.Native.Nat.{ℕ, zero, suc, ◌^◌, ◌≤◌, ◌<◌}
use native.Mathlib.Omega.{arith}
use lib.IntN.{ℤ}
use lib.ListN.{length, take, drop}
use lib.Seq.{take_at}
use Rattle.std.specs.Prelude.{Ok}
use Rattle.lists.proofs.Membership.{◌∈◌, nil_out, Every, every_cons}
use Rattle.desk.specs.Desk.{Handed, told_by}
use Rattle.codes.specs.declared.table.Code.{Code}
use Rattle.codes.specs.Codes.{lawful, branches}
use Rattle.trellis.specs.Trellis.{Trellis}
use Rattle.trellis.specs.Verdict.{words, messages}
use Rattle.trellis.specs.Lawful.{Lawful}
use Rattle.trellis.proofs.Messages.{words_in, words_out}
use Rattle.trellis.proofs.SheetSound.{OnlyLeast, sheet_sound}
use Rattle.blocks.specs.Symbols.{view}
use Rattle.blocks.specs.Blocks.{trellis_of}
use Rattle.blocks.proofs.Closing.{trellis_lawful}
use Rattle.sheets.specs.Bytes.{Sheet, series, bit_at, sheet_read}
use Rattle.sheets.specs.Checking.{formed, carried, told, check_desk, sizes_fit, checking}
use Rattle.sheets.proofs.Series.{length_series}
use Rattle.sheets.proofs.Rows.{Passed, passed_accepted, accepted_passed}

-- ---- the message is one of the messages

-- for the bits: what holds of each f i holds of all
every_series : {A : Type 0} (P : A → Type 0) (n : ℕ) (f : ℕ → A) → ((i : ℕ) → P (f i)) → Every P (series n f)
unfolding series
every_series P zero f h = λ a m. absurd (nil_out m)
every_series P (suc n) f h = every_cons P (h 0) (every_series P n (λ i. f (suc i)) (λ i. h (suc i)))

-- L bits are a message, where a step has so many inputs
pub message_read : (t : Trellis) → 2 ≤ t.inputs → (bytes : List ℕ) → (sheet_read t.span bytes).message ∈ messages t
unfolding sheet_read messages
message_read t wide bytes =
    let bits : List ℕ = series t.span (bit_at bytes) in
    subst (λ (k : ℕ). bits ∈ words t.inputs k) (length_series t.span (bit_at bytes))
    (words_in t.inputs bits (every_series (λ b. b < t.inputs) t.span (bit_at bytes) (λ i. omega arith)))

-- ---- any trellis

module _ {t : Trellis} (law : Lawful t) (rules sizes form : Bool) (s : Sheet) (member : s.message ∈ messages t) (message : List ℕ) where
  -- Accepted: the bits in front of the buffer are the only message of least metric, and the metric given is that metric.
  pub desk_sound : let answer = check_desk rules sizes form t s message in answer.reply.number ≡ 0
      → OnlyLeast t answer.reply.metric (take t.span answer.buffers)
  unfolding carried messages
  desk_sound z =
      let p : Passed rules sizes form t s message = accepted_passed rules sizes form t s message z in
      let front : take t.span (s.message ++ drop t.span message) ≡ s.message =
      take_at s.message (drop t.span message) t.span (words_out t.inputs t.span member).length in
      subst (λ (h : Handed (List ℕ)). OnlyLeast t h.reply.metric (take t.span h.buffers)) (sym (passed_accepted rules sizes form t s message p))
      (subst (OnlyLeast t s.metric) (sym front) (sheet_sound law s.entries member p.claim))

  -- The same of the program's answer: where it is `Ok m`, m is the least metric and the bits written are its only message.
  pub desk_alone : (m : ℕ) (exit : List ℕ) → told (Ok m) exit ≡ check_desk rules sizes form t s message → OnlyLeast t m (take t.span exit)
  unfolding told_by
  desk_alone m exit e =
      subst (λ (h : Handed (List ℕ)). OnlyLeast t h.reply.metric (take t.span h.buffers)) (sym e)
      (desk_sound (ap (λ (h : Handed (List ℕ)). h.reply.number) (sym e)))

-- ---- symbols

module _ (c : Code) (l : ℕ) (symbols : List ℤ) (bytes message : List ℕ) where
  abbrev t : Trellis
  t = trellis_of c l (view symbols)

  -- Accepted: the L bytes in front of the buffer are the only message of least metric, and the metric given is that metric.
  pub check_sound : let answer = checking c l symbols bytes message in answer.reply.number ≡ 0 → OnlyLeast t answer.reply.metric (take l answer.buffers)
  unfolding checking
  check_sound = desk_sound (trellis_lawful c l (view symbols)) (lawful c) (sizes_fit c l (length symbols) (length message))
      (formed l (branches c l) (2 ^ c.memory) bytes) (sheet_read l bytes) (message_read t (omega arith) bytes) message

  -- The same of the program's answer: where it is `Ok m`, m is the least metric and the L bytes written are its only message.
  pub accepted_alone : (m : ℕ) (exit : List ℕ) → told (Ok m) exit ≡ checking c l symbols bytes message → OnlyLeast t m (take l exit)
  unfolding checking
  accepted_alone = desk_alone (trellis_lawful c l (view symbols)) (lawful c) (sizes_fit c l (length symbols) (length message))
      (formed l (branches c l) (2 ^ c.memory) bytes) (sheet_read l bytes) (message_read t (omega arith) bytes) message
