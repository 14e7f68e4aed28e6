-- What `check` answers and writes, for every input: the form of a sheet, then the refusals in their order. Document 01, 'The decision
-- sheet' and 'When the desk says no'. Believed, and read after Desk, Bytes and the conditions A to D (trellis, Sheet). Assumes nothing.
use Rattle.std.specs.Prelude.{List, [], ◌∷◌, ◌++◌, Bool, true, false, cond, not, ◌&&◌, ℕ, ◌^◌, eqb, ltb, leb, ℤ, length, drop, Result}
use Rattle.lists.specs.Lists.{all}
use Rattle.desk.specs.Desk.{Reply, numbered, with_metric, Handed, handed, told_by, tested}
use Rattle.desk.specs.declared.Refusal.{Refusal}
use Rattle.codes.specs.declared.table.Code.{Code}
use Rattle.codes.specs.Limits.{shortest_message, longest_message}
use Rattle.codes.specs.Codes.{from, lawful, branches, block_length}
use Rattle.trellis.specs.Trellis.{Trellis}
use Rattle.trellis.specs.Verdict.{Entry, earlier, path_of, least_metric}
use Rattle.trellis.specs.Sheet.{carries, honest}
use Rattle.blocks.specs.Symbols.{view}
use Rattle.blocks.specs.Blocks.{trellis_of}
use Rattle.sheets.specs.Bytes.{Sheet, sheet_bytes, sheet_read}

-- ---- the form

-- the same bytes: none differs, 'is missing or left over'
unfoldable pub same_bytes : List ℕ → List ℕ → Bool
same_bytes [] [] = true
same_bytes [] (y ∷ ys) = false
same_bytes (x ∷ xs) [] = false
same_bytes (x ∷ xs) (y ∷ ys) = eqb x y && same_bytes xs ys

-- 'entry count, 1 to 4,096'
abbrev pub most_entries : ℕ
most_entries = 4096

-- 'They rise strictly by level, then state'
unfoldable pub rising : List Entry → Bool
rising [] = true
rising (e ∷ []) = true
rising (e ∷ f ∷ rest) = earlier e.node f.node && rising (f ∷ rest)

-- 'level at most L+m, state below 2^m', of a last level and a number of states
abbrev pub inside : (top states : ℕ) → Entry → Bool
inside top states e = leb e.node.level top && ltb e.node.state states

-- Writing what was read gives back just these bytes: so the length, the kind, L and the unused bits are as the layout says. The form is
-- bad 'if L differs from the caller's, or if a byte is missing or left over'.
unfoldable pub framed : ℕ → List ℕ → Bool
framed l bytes = same_bytes (sheet_bytes l (sheet_read l bytes)) bytes

-- 'The form is bad if any of this fails'
unfoldable pub formed : (l top states : ℕ) → List ℕ → Bool
formed l top states bytes =
    framed l bytes &&
    from 1 most_entries (length (sheet_read l bytes).entries) &&
    rising (sheet_read l bytes).entries &&
    all (inside top states) (sheet_read l bytes).entries

-- ---- the claim

-- 'It accepts exactly if all of these hold': A to D, for the sheet's metric, entries and the path of its message
unfoldable pub carried : Trellis → Sheet → Bool
carried t s = carries t s.metric s.entries (path_of t s.message)

-- 'An honest sheet lists exactly the reachable nodes of cost at most M, terminal included, with their costs': that of a message. The
-- check does not ask for it; the decoder that writes a sheet writes this one.
abbrev pub honest_sheet : Trellis → List ℕ → Sheet
honest_sheet t w = record { metric = least_metric t; message = w; entries = honest t (least_metric t) }

-- ---- the answer

-- 0: 'On acceptance the check gives M'
abbrev pub accepted : ℕ → Reply
accepted metric = with_metric metric (numbered 0)

-- the check's answer, and the message buffer
abbrev pub told : Result ℕ Refusal → List ℕ → Handed (List ℕ)
told r message = told_by accepted r message

-- What any check hands back, of whatever kind of block: the tests in their order, and 'in the check 7 follows 6'. Then 'On acceptance the
-- check gives M and writes the L message bytes'; a longer buffer's 'excess is untouched'.
unfoldable pub check_desk : (rules sizes form : Bool) → Trellis → Sheet → (message : List ℕ) → Handed (List ℕ)
check_desk rules sizes form t s message =
    tested rules sizes form message
    (cond (not (carried t s)) (handed (numbered 7) message)
    (handed (accepted s.metric) (s.message ++ drop t.span message)))

-- All sizes are as stated; else 2: 'L .. or a block length not as stated; an output buffer .. too short'. 'Symbols must number exactly N'.
abbrev pub sizes_fit : (c : Code) (l symbols room : ℕ) → Bool
sizes_fit c l symbols room = from shortest_message longest_message l && eqb symbols (block_length c l) && leb l room

-- that of a code, L, a block and a sheet
unfoldable pub checking : (c : Code) (l : ℕ) (symbols : List ℤ) (bytes message : List ℕ) → Handed (List ℕ)
checking c l symbols bytes message =
    check_desk (lawful c) (sizes_fit c l (length symbols) (length message)) (formed l (branches c l) (2 ^ c.memory) bytes)
    (trellis_of c l (view symbols)) (sheet_read l bytes) message
