-- What `decode_sheet` answers and writes, for every input: everything of `decode`, then 9, then the honest sheet. Document 01, 'The
-- decision sheet' and the row of refusal 9. Believed, and read after Decoding, Bytes and Checking. Assumes nothing.
use Rattle.std.specs.Prelude.{List, ◌++◌, Bool, true, cond, ℕ, eqb, ltb, ℤ, length, take, drop, Result}
use Rattle.desk.specs.Desk.{Reply, numbered, with_size, Handed, handed, told_by}
use Rattle.desk.specs.declared.Refusal.{Refusal}
use Rattle.codes.specs.declared.table.Code.{Code}
use Rattle.codes.specs.Codes.{lawful}
use Rattle.trellis.specs.Trellis.{Trellis}
use Rattle.blocks.specs.Symbols.{view}
use Rattle.blocks.specs.Blocks.{trellis_of}
use Rattle.search.specs.Decoding.{found, sizes_fit, decode_desk}
use Rattle.sheets.specs.Bytes.{sheet_bytes}
use Rattle.sheets.specs.Checking.{honest_sheet}
use Rattle.writer.specs.declared.seen.FoundSheet.{FoundSheet}

-- 0: what `decode` gives, and the sheet's 'length too'
abbrev pub found_sheet : FoundSheet → Reply
found_sheet f = with_size f.bytes (found f.found)

-- the decoder's answer, and both buffers
abbrev pub told : Result FoundSheet Refusal → List ℕ → List ℕ → Handed (List ℕ × List ℕ)
told r message sheet = told_by found_sheet r (message, sheet)

-- the bytes of 'the honest sheet' of what a decode answered, its message the first L bytes of the buffer
unfoldable pub honest_bytes : Trellis → Handed (List ℕ) → List ℕ
honest_bytes t d = sheet_bytes t.span (honest_sheet t (take t.span d.buffers))

-- Where the decode answers: 9 'exactly when it would answer but the sheet buffer is shorter than the sheet', with 'the size needed' and
-- both buffers untouched. Else it 'writes the honest sheet described below and gives its length too'; its buffer's 'excess is untouched'.
unfoldable pub written : (bytes message sheet : List ℕ) → Handed (List ℕ) → Handed (List ℕ × List ℕ)
written bytes message sheet d =
    cond (ltb (length sheet) (length bytes)) (handed (with_size (length bytes) (numbered 9)) (message, sheet))
    (handed (with_size (length bytes) d.reply) (d.buffers, bytes ++ drop (length bytes) sheet))

-- What any decode with a sheet hands back, of whatever kind of block: 'They are tested in the order 1, 2, 6, .. then 3, 4, 5, then 9':
-- everything of the decode, and then the sheet. 'On any refusal every output buffer is untouched.'
unfoldable pub sheet_desk : (rules sizes form : Bool) → Trellis → (room allowance : ℕ) → (message sheet : List ℕ) → Handed (List ℕ × List ℕ)
sheet_desk rules sizes form t room allowance message sheet =
    let d : Handed (List ℕ) = decode_desk rules sizes form t room allowance message in
    cond (eqb d.reply.number 0) (written (honest_bytes t d) message sheet d)
    (handed d.reply (message, sheet))

-- that of a code, L and a block of symbols
unfoldable pub sheeting : (c : Code) (l : ℕ) (symbols : List ℤ) (room allowance words : ℕ) (message sheet : List ℕ) → Handed (List ℕ × List ℕ)
sheeting c l symbols room allowance words message sheet =
    sheet_desk (lawful c) (sizes_fit c l (length symbols) room words (length message)) true (trellis_of c l (view symbols)) room allowance message sheet
