-- What any operation on a code and a block hands back: document 01, 'When the desk says no', its numbers with their values, and the order of
-- the first tests. Believed, after Lists. Assumes nothing.
use Rattle.std.specs.Prelude.{Bool, cond, not, ℕ, Result, Ok, Err}
use Rattle.desk.specs.declared.Refusal.{Refusal}
use Rattle.desk.specs.declared.Refusal.TheVariants.{BadCode, BadSize, NoRoom, NoAllowance, Tied, Malformed, NotCarried, NoSheetRoom}

-- Beside the buffers: 'No.', and the values of 'Handed back'. The size is that of what was written, or 'the size needed'.
pub record Reply : Type 0 where
  pub number : ℕ
  pub metric : ℕ
  pub steps : ℕ
  pub size : ℕ

-- 'Values not named in a row are 0.'
abbrev pub numbered : ℕ → Reply
numbered number = record { number = number; metric = 0; steps = 0; size = 0 }

-- a row with a value
abbrev pub with_metric : ℕ → Reply → Reply
with_metric metric r = record { number = r.number; metric = metric; steps = r.steps; size = r.size }

abbrev pub with_steps : ℕ → Reply → Reply
with_steps steps r = record { number = r.number; metric = r.metric; steps = steps; size = r.size }

abbrev pub with_size : ℕ → Reply → Reply
with_size size r = record { number = r.number; metric = r.metric; steps = r.steps; size = size }

-- The table: 'For each case of an enum answer, a definition gives this paper's number and values.'
unfoldable pub refused : Refusal → Reply
refused BadCode = numbered 1
refused BadSize = numbered 2
refused (NoRoom steps) = with_steps steps (numbered 3)
refused (NoAllowance steps) = with_steps steps (numbered 4)
refused (Tied metric steps) = with_metric metric (with_steps steps (numbered 5))
refused Malformed = numbered 6
refused NotCarried = numbered 7
refused (NoSheetRoom bytes) = with_size bytes (numbered 9)

-- with the output buffer, or buffers, as they are then
pub record Handed (Buffers : Type 0) : Type 0 where
  pub reply : Reply
  pub buffers : Buffers

abbrev pub handed : {Buffers : Type 0} → Reply → Buffers → Handed Buffers
handed reply buffers = record { reply = reply; buffers = buffers }

-- an operation's answer, of which the operation itself says what it hands back, or its refusal
unfoldable pub told_by : {Answer Buffers : Type 0} → (Answer → Reply) → Result Answer Refusal → Buffers → Handed Buffers
told_by answered (Ok answer) buffers = handed (answered answer) buffers
told_by answered (Err why) buffers = handed (refused why) buffers

-- 'They are tested in the order 1, 2, 6, ..': the rules of the code, the sizes, the form, and then what is the operation's own; 'On any
-- refusal every output buffer is untouched.'
unfoldable pub tested : {Buffers : Type 0} → (rules sizes form : Bool) → Buffers → Handed Buffers → Handed Buffers
tested rules sizes form buffers onward =
    cond (not rules) (handed (numbered 1) buffers)
    (cond (not sizes) (handed (numbered 2) buffers)
    (cond (not form) (handed (numbered 6) buffers)
    onward))
