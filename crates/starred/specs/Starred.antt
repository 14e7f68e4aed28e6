-- The starred cases of document 01, 'Blocks to try': what is asked, what the definitions give, the one list, and the one claim, which
-- holds by computation. Code 7, 5 throughout. Assumes nothing.
use Rattle.std.specs.Prelude.{◌≡◌, refl, ℕ, ◌*◌, take, set, replicate, ℤ, pos, neg_ℤ}
use mathlib.Core.List.{List, [], ◌∷◌, map, flat_map}
use Rattle.std.specs.Int.Count.{ones, ones_in}
use Rattle.lists.specs.Lists.{all, any, keep, distinct, insert, sort, below, least}
use Rattle.codes.specs.Codes.{house_codes, house_code, lawful, outputs_from, codeword}
use Rattle.desk.specs.Desk.{Handed, handed, numbered, with_metric, with_steps, with_size, tested}
use Rattle.codes.specs.Encoding.{encoding}
use Rattle.trellis.specs.Trellis.{Trellis, metric, allowed, ends, along, paths, paths_to, cost, reachable, successors}
use Rattle.trellis.specs.Verdict.{ranked, steps, met, words, messages, path_of, least_metric, least_messages, last_fit, decided, verdict}
use Rattle.trellis.specs.Sheet.{listed_as, listed_within, condition_a, condition_b, condition_c, condition_d, carries, honest}
use Rattle.blocks.specs.Symbols.{weight, view}
use Rattle.blocks.specs.Blocks.{trellis_of, distance, branch_cost}
use Rattle.store.specs.Limits.{words_per_node}
use Rattle.search.specs.Decoding.{given, decode_desk, decoding}
use Rattle.sheets.specs.Bytes.{series, bytes_of, octet, following, sheet_bytes, number_at, sheet_read}
use Rattle.sheets.specs.Checking.{same_bytes, rising, framed, formed, carried, honest_sheet, check_desk, checking}

-- ---- what is asked, and what comes back

-- the questions, of code 7, 5
pub data Question : Type 0 where
  -- encode a message into a buffer of so many bytes, each 9
  encode : (message : List ℕ) (room : ℕ) → Question
  -- the output sequences of a message, one for each generator
  sequences : (message : List ℕ) → Question
  -- decode a block with L=1, a room R and an allowance B; as much memory as R needs, and a message buffer of one byte, 9
  decode : (symbols : List ℤ) (room allowance : ℕ) → Question
  -- what a message costs against a block
  measure : (symbols : List ℤ) (message : List ℕ) → Question
  -- the weights of symbols
  weigh : (symbols : List ℤ) → Question
  -- write the honest sheet of a block with L=1 for a message
  sheet : (symbols : List ℤ) (message : List ℕ) → Question
  -- check a sheet for a block with L=1, the message buffer one byte, 9
  check : (symbols : List ℤ) (bytes : List ℕ) → Question

-- the replies, one for each kind of question
pub data Returned : Type 0 where
  encoded : Handed (List ℕ) → Returned
  apart : (first second : List ℕ) → Returned
  decoded : Handed (List ℕ) → Returned
  measured : ℕ → Returned
  weighed : List ℕ → Returned
  wrote : List ℕ → Returned
  checked : Handed (List ℕ) → Returned

-- the output sequences of a codeword of two generators
unfoldable pub first : List ℕ → List ℕ
first [] = []
first (x ∷ []) = x ∷ []
first (x ∷ y ∷ rest) = x ∷ first rest

unfoldable pub second : List ℕ → List ℕ
second [] = []
second (x ∷ []) = []
second (x ∷ y ∷ rest) = y ∷ second rest

-- the trellis of code 7, 5, L=1 and a block
abbrev pub tried : List ℤ → Trellis
tried symbols = trellis_of (house_code 0) 1 (view symbols)

-- what the definitions reply
unfoldable pub reply : Question → Returned
reply (encode message room) = encoded (encoding (house_code 0) message (replicate room 9))
reply (sequences message) = apart (first (codeword (house_code 0) message)) (second (codeword (house_code 0) message))
reply (decode symbols room allowance) = decoded (decoding (house_code 0) 1 symbols room allowance (words_per_node * room) (9 ∷ []))
reply (measure symbols message) = measured (metric (tried symbols) (path_of (tried symbols) message))
reply (weigh symbols) = weighed (map weight symbols)
reply (sheet symbols message) = wrote (sheet_bytes 1 (honest_sheet (tried symbols) message))
reply (check symbols bytes) = checked (checking (house_code 0) 1 symbols bytes (9 ∷ []))

-- ---- the list

-- a starred case: its number in the paper, what is asked, and the paper's answer
pub record Case : Type 0 where
  pub number : ℕ
  pub question : Question
  pub answer : Returned

-- the same, part by part
abbrev pub case : ℕ → Question → Returned → Case
case n q a = record { number = n; question = q; answer = a }

-- what is handed back, part by part: of the encoder, the decoder and the check
abbrev pub sent : (number size : ℕ) → List ℕ → Returned
sent number size out = encoded (handed (with_size size (numbered number)) out)

abbrev pub found : (number metric steps : ℕ) → List ℕ → Returned
found number metric steps message = decoded (handed (with_metric metric (with_steps steps (numbered number))) message)

abbrev pub judged : (number metric : ℕ) → List ℕ → Returned
judged number metric message = checked (handed (with_metric metric (numbered number)) message)

-- a symbol below zero
abbrev pub minus : ℕ → ℤ
minus n = neg_ℤ (pos n)

-- the block of cases 4 to 9: 'symbols 3 -5 -2 1 -4 -6'
abbrev pub block : List ℤ
block = pos 3 ∷ minus 5 ∷ minus 2 ∷ pos 1 ∷ minus 4 ∷ minus 6 ∷ []

-- the block of case 10: 'Six zeros'
abbrev pub six_zeros : List ℤ
six_zeros = pos 0 ∷ pos 0 ∷ pos 0 ∷ pos 0 ∷ pos 0 ∷ pos 0 ∷ []

-- 'Case 4's whole sheet, 47 bytes in hexadecimal'
abbrev pub whole_sheet : List ℕ
whole_sheet =
    0x2B ∷ 0x00 ∷ 0x00 ∷ 0x00 ∷ 0x01 ∷ 0x01 ∷ 0x01 ∷ 0x00 ∷ 0x03 ∷ 0x00 ∷ 0x00 ∷ 0x00 ∷ 0x04 ∷ 0x00 ∷ 0x80 ∷
    0x00 ∷ 0x00 ∷ 0x00 ∷ 0x00 ∷ 0x00 ∷ 0x00 ∷ 0x00 ∷ 0x00 ∷
    0x01 ∷ 0x00 ∷ 0x02 ∷ 0x00 ∷ 0x03 ∷ 0x00 ∷ 0x00 ∷ 0x00 ∷
    0x02 ∷ 0x00 ∷ 0x01 ∷ 0x00 ∷ 0x03 ∷ 0x00 ∷ 0x00 ∷ 0x00 ∷
    0x03 ∷ 0x00 ∷ 0x00 ∷ 0x00 ∷ 0x03 ∷ 0x00 ∷ 0x00 ∷ 0x00 ∷ []

-- the starred cases, each with its sentence
unfoldable pub cases : List Case
cases =
    -- 'Message 1 encodes as 11 10 11.' 'Message 0 as 00 00 00.'
    case 1 (encode (1 ∷ []) 6) (sent 0 6 (1 ∷ 1 ∷ 1 ∷ 0 ∷ 1 ∷ 1 ∷ [])) ∷
    case 2 (encode (0 ∷ []) 6) (sent 0 6 (0 ∷ 0 ∷ 0 ∷ 0 ∷ 0 ∷ 0 ∷ [])) ∷
    -- 'Message 11101 has output sequences 1010011 and 1101001'
    case 3 (sequences (1 ∷ 1 ∷ 1 ∷ 0 ∷ 1 ∷ []))
    (apart (1 ∷ 0 ∷ 1 ∷ 0 ∷ 0 ∷ 1 ∷ 1 ∷ []) (1 ∷ 1 ∷ 0 ∷ 1 ∷ 0 ∷ 0 ∷ 1 ∷ [])) ∷
    -- 'R=5, B=3: message 1, metric 3, E=3; the other message costs 17.'
    case 4 (decode block 5 3) (found 0 3 3 (1 ∷ [])) ∷
    case 4 (measure block (0 ∷ [])) (measured 17) ∷
    -- 'The same with R=4: 3, steps 2.' 'R=4, B=2: 4.' 'R=3, B=2: 3, steps 1.' 'R=0: 3, steps 0.' 'R=1, B=0: 4, steps 0.'
    case 5 (decode block 4 3) (found 3 0 2 (9 ∷ [])) ∷
    case 6 (decode block 4 2) (found 4 0 2 (9 ∷ [])) ∷
    case 7 (decode block 3 2) (found 3 0 1 (9 ∷ [])) ∷
    case 8 (decode block 0 3) (found 3 0 0 (9 ∷ [])) ∷
    case 9 (decode block 1 0) (found 4 0 0 (9 ∷ [])) ∷
    -- 'Six zeros, R=6, B=5: 5, metric 0, steps 5.'
    case 10 (decode six_zeros 6 5) (found 5 0 5 (9 ∷ [])) ∷
    -- '-1 -1 2 9 0 0, R=6, B=5: 5, metric 2, steps 5.'
    case 11 (decode (minus 1 ∷ minus 1 ∷ pos 2 ∷ pos 9 ∷ pos 0 ∷ pos 0 ∷ []) 6 5) (found 5 2 5 (9 ∷ [])) ∷
    -- 'Weights of -128, -1, 0, 127: 128, 1, 0, 127.'
    case 13 (weigh (minus 128 ∷ minus 1 ∷ pos 0 ∷ pos 127 ∷ [])) (weighed (128 ∷ 1 ∷ 0 ∷ 127 ∷ [])) ∷
    -- 'It is accepted; with its last byte missing, 6; with its metric byte made 04, 7.'
    case 14 (sheet block (1 ∷ [])) (wrote whole_sheet) ∷
    case 14 (check block whole_sheet) (judged 0 3 (1 ∷ [])) ∷
    case 14 (check block (take 46 whole_sheet)) (judged 6 0 (9 ∷ [])) ∷
    case 14 (check block (set whole_sheet 8 0x04)) (judged 7 0 (9 ∷ [])) ∷ []

-- ---- the claim

-- each case has the paper's answer
pub starred_hold : map (λ c. reply c.question) cases ≡ map (λ (c : Case). c.answer) cases
unfolding cases reply first second
    flat_map all any keep distinct insert sort below least ones ones_in
    lawful house_codes house_code outputs_from codeword encoding
    allowed ends along paths paths_to cost reachable successors
    ranked steps met words messages path_of least_metric least_messages last_fit decided verdict
    view distance branch_cost tested given decode_desk decoding
    listed_as listed_within condition_a condition_b condition_c condition_d carries honest
    series bytes_of octet following sheet_bytes number_at sheet_read same_bytes rising framed formed carried check_desk checking
starred_hold = refl
