-- Laws of what a decode with a sheet hands back: the rows of its definition, of any kind of block. Assumes nothing.
use mathlib.Core.Path.{◌≡◌}
use mathlib.Core.List.{List}
use mathlib.Core.Bool.{Bool}
use Prim.Native.Nat.{ℕ, ◌≤◌, ◌<◌}
use native.Mathlib.Omega.{arith}
use borrow.Author.Tests.{lt-ltb, le-ltb}
use lib.ListN.{length, take}
use lib.Seq.{sets}
use Rattle.std.specs.Prelude.{Ok}
use Rattle.lists.proofs.Writing.{sets_front}
use Rattle.desk.specs.Desk.{handed, refused, told_by}
use Rattle.desk.specs.declared.Refusal.{Refusal}
use Rattle.desk.specs.declared.Refusal.TheVariants.{BadCode, BadSize, NoRoom, NoAllowance, Tied, Malformed, NotCarried, NoSheetRoom}
use Rattle.trellis.specs.Trellis.{Trellis}
use Rattle.search.specs.Decoding.{found, decode_desk}
use Rattle.search.specs.declared.seen.Found.{Found}
use Rattle.sheets.specs.Bytes.{sheet_bytes}
use Rattle.sheets.specs.Checking.{honest_sheet}
use Rattle.writer.specs.Sheeting.{told, honest_bytes, written, sheet_desk}

module _ (rules sizes form : Bool) (t : Trellis) (room allowance : ℕ) (message sheet : List ℕ) where
  -- a refusal of the decode
  pub sheet_refused : (why : Refusal) → handed (refused why) message ≡ decode_desk rules sizes form t room allowance message
      → handed (refused why) (message, sheet) ≡ sheet_desk rules sizes form t room allowance message sheet
  unfolding refused sheet_desk
  sheet_refused BadCode h = rw (← h)
  sheet_refused BadSize h = rw (← h)
  sheet_refused (NoRoom steps) h = rw (← h)
  sheet_refused (NoAllowance steps) h = rw (← h)
  sheet_refused (Tied metric steps) h = rw (← h)
  sheet_refused Malformed h = rw (← h)
  sheet_refused NotCarried h = rw (← h)
  sheet_refused (NoSheetRoom bytes) h = rw (← h)

  module _ {f : Found} {exit : List ℕ} (h : handed (found f) exit ≡ decode_desk rules sizes form t room allowance message) where
    -- the sheet's bytes
    abbrev own : List ℕ
    own = sheet_bytes t.span (honest_sheet t (take t.span exit))

    -- the answer of the decode
    pub sheet_answered : written own message sheet (handed (found f) exit) ≡ sheet_desk rules sizes form t room allowance message sheet
    unfolding sheet_desk honest_bytes
    sheet_answered = rw (← h)

    module _ {bytes : ℕ} (size : bytes ≡ length own) where
      -- 9: the buffer is too short for the sheet
      pub sheet_short : length sheet < bytes → handed (refused (NoSheetRoom bytes)) (message, sheet) ≡ sheet_desk rules sizes form t room allowance message sheet
      unfolding refused written
      sheet_short low = rw (← sheet_answered, lt-ltb (length sheet) (length own) (omega arith), size)

      -- 0: the sheet is in front of its buffer
      pub sheet_done : bytes ≤ length sheet → {after : List ℕ} → after ≡ sets sheet 0 own
          → told (Ok (record { found = f; bytes = bytes })) exit after ≡ sheet_desk rules sizes form t room allowance message sheet
      unfolding told_by written
      sheet_done fits e = rw (← sheet_answered, le-ltb (length sheet) (length own) (omega arith), size, e, sets_front sheet own (omega arith))
