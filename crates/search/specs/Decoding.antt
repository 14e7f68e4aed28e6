-- What `decode` answers and writes, for every input: document 01, 'When the desk says no' and 'Node order'.
-- Believed, after Desk, Codes, Symbols, Blocks, Trellis and Verdict. Assumes nothing.
use Rattle.std.specs.Prelude.{List, ◌++◌, Bool, true, ◌&&◌, ℕ, ◌*◌, eqb, leb, ℤ, length, drop, Result}
use Rattle.desk.specs.Desk.{Reply, numbered, with_metric, with_steps, Handed, handed, told_by, tested}
use Rattle.desk.specs.declared.Refusal.{Refusal}
use Rattle.codes.specs.Limits.{shortest_message, longest_message}
use Rattle.codes.specs.Codes.{from, lawful, block_length}
use Rattle.codes.specs.declared.table.Code.{Code}
use Rattle.trellis.specs.Trellis.{Trellis}
use Rattle.trellis.specs.Verdict.{Verdict, answered, room_short, allowance_spent, tied, verdict}
use Rattle.blocks.specs.Symbols.{view}
use Rattle.blocks.specs.Blocks.{trellis_of}
use Rattle.store.specs.Limits.{words_per_node}
use Rattle.search.specs.Limits.{largest_room}
use Rattle.search.specs.declared.seen.Found.{Found}

-- 0: 'An answered decode .. gives metric and E'
abbrev pub found : Found → Reply
found f = with_metric f.metric (with_steps f.steps (numbered 0))

-- the decoder's answer, and the message buffer
abbrev pub told : Result Found Refusal → List ℕ → Handed (List ℕ)
told r message = told_by found r message

-- The verdict handed back: 'An answered decode writes L message bytes and gives metric and E'; a longer buffer's 'excess is untouched'.
-- 'On any refusal every output buffer is untouched.'
unfoldable pub given : Verdict → List ℕ → Handed (List ℕ)
given (answered word metric steps) message = handed (with_metric metric (with_steps steps (numbered 0))) (word ++ drop (length word) message)
given (room_short steps) message = handed (with_steps steps (numbered 3)) message
given (allowance_spent steps) message = handed (with_steps steps (numbered 4)) message
given (tied metric steps) message = handed (with_metric metric (with_steps steps (numbered 5))) message

-- What any decode hands back, of whatever kind of block: 'tested in the order 1, 2, 6, .. then 3, 4, 5', the last three by the verdict
unfoldable pub decode_desk : (rules sizes form : Bool) → Trellis → (room allowance : ℕ) → (message : List ℕ) → Handed (List ℕ)
decode_desk rules sizes form t room allowance message = tested rules sizes form message (given (verdict t room allowance) message)

-- All sizes are as stated; else 2: 'L, R or a block length not as stated; an output buffer .. too short; working memory too small'.
-- 'Symbols must number exactly N', and memory is too small 'exactly when it holds less than R nodes need by a fixed size per node'.
abbrev pub sizes_fit : (c : Code) (l symbols room words message : ℕ) → Bool
sizes_fit c l symbols room words message =
    from shortest_message longest_message l &&
    (leb room largest_room && (eqb symbols (block_length c l) && (leb l message && leb (words_per_node * room) words)))

-- That of a code, L and a block, whose symbols have no form to test. Of the working memory only its size counts: 'No answer may depend on
-- what it held before.'
unfoldable pub decoding : (c : Code) (l : ℕ) (symbols : List ℤ) (room allowance words : ℕ) (message : List ℕ) → Handed (List ℕ)
decoding c l symbols room allowance words message =
    decode_desk (lawful c) (sizes_fit c l (length symbols) room words (length message)) true (trellis_of c l (view symbols)) room allowance message
