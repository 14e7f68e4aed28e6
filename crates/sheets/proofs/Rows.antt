-- What bytes of a good form give the parts of the check, and what is handed back where all tests pass, for any trellis. Assumes nothing.
use mathlib.Core.Path.{◌≡◌, refl}
use mathlib.Core.List.{List, ◌++◌}
use mathlib.Core.Bool.{Bool, true, false, cond, not, ◌&&◌}
use Prim.Native.Nat.{ℕ, ◌≤◌}
use native.Mathlib.Omega.{arith}
use lib.ListN.{length, drop}
use Rattle.lists.specs.Lists.{all}
use Rattle.lists.proofs.Tests.{both}
use Rattle.desk.specs.Desk.{numbered, handed, tested}
use Rattle.codes.specs.Limits.{shortest_message}
use Rattle.codes.specs.Codes.{from}
use Rattle.trellis.specs.Trellis.{Trellis, top}
use Rattle.blocks.specs.Machines.{states_of, trellis_under}
use Rattle.blocks.specs.declared.block.Block.{Block}
use Rattle.sheets.specs.Bytes.{Sheet, sheet_read, message_place}
use Rattle.sheets.specs.Checking.{framed, most_entries, rising, inside, formed, carried, accepted, check_desk}
use Rattle.sheets.specs.Work.{formed_for, Whole, Counted}
use Rattle.sheets.proofs.Numbers.{Bytes}
use Rattle.sheets.proofs.Frame.{framed_out}

-- ---- the form

-- what the parts ask of the bytes, for a block as it was seen
pub record Good (b : Block) (bytes : List ℕ) : Type 0 where
  pub front : message_place ≤ length bytes
  pub whole : Whole b.bits bytes
  pub counted : Counted b.bits bytes
  pub ordered : rising (sheet_read b.bits bytes).entries ≡ true
  pub inside : all (inside (top (trellis_under b)) (states_of b.machine)) (sheet_read b.bits bytes).entries ≡ true

pub formed_good : (b : Block) (bytes : List ℕ) → Bytes bytes → shortest_message ≤ b.bits → formed_for b bytes ≡ true → Good b bytes
unfolding formed
formed_good b bytes fits some h =
    let es = (sheet_read b.bits bytes).entries in
    let last = both (framed b.bits bytes && from 1 most_entries (length es) && rising es) _ h in
    let third = both (framed b.bits bytes && from 1 most_entries (length es)) _ last.0 in
    let frame = (both (framed b.bits bytes) _ third.0).0 in
    let size = (framed_out b.bits bytes fits some b.span frame).size in
    record {
      front = omega (arith, size);
      whole = record { span = b.span; size = omega (arith, size) };
      counted = record { span = b.span; size = size };
      ordered = third.1;
      inside = last.1;
    }

-- ---- the answer

module _ (rules sizes form : Bool) (t : Trellis) (s : Sheet) (message : List ℕ) where
  -- all tests passed
  pub record Passed : Type 0 where
    pub lawful : rules ≡ true
    pub fits : sizes ≡ true
    pub formed : form ≡ true
    pub claim : carried t s ≡ true

  -- 0: then the metric and the message are handed back
  pub passed_accepted : Passed → check_desk rules sizes form t s message ≡ handed (accepted s.metric) (s.message ++ drop t.span message)
  unfolding check_desk tested
  passed_accepted p = rw (p.lawful, p.fits, p.formed, p.claim)

  -- no other answer has the number 0
  pub accepted_passed : (check_desk rules sizes form t s message).reply.number ≡ 0 → Passed
  unfolding check_desk tested
  accepted_passed = go rules sizes form (carried t s) refl refl refl refl
    where
      go : (r z f q : Bool) → rules ≡ r → sizes ≡ z → form ≡ f → carried t s ≡ q
          → (tested r z f message (cond (not q) (handed (numbered 7) message) (handed (accepted s.metric) (s.message ++ drop t.span message)))).reply.number ≡ 0
          → Passed
      go false z f q a b c d e = absurd (omega arith)
      go true false f q a b c d e = absurd (omega arith)
      go true true false q a b c d e = absurd (omega arith)
      go true true true false a b c d e = absurd (omega arith)
      go true true true true a b c d e = record { lawful = a; fits = b; formed = c; claim = d }
