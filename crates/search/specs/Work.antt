-- What the functions of the search ask of each other; what they make of the rows that the memory shows; and what a search, and the tests of
-- an entry, came to before anything is written. Not believed: what is handed back is said in Decoding alone. Assumes nothing.
use Rattle.std.specs.Prelude.{◌≡◌, true, false, List, ◌++◌, reverse, ℕ, zero, suc, ◌-◌, ◌*◌, ◌≤◌, ◌<◌, min, length, drop, is_err, Result, Ok, Err, MatchResult}
use Rattle.desk.specs.Desk.{handed, refused}
use Rattle.desk.specs.declared.Refusal.{Refusal}
use Rattle.desk.specs.declared.Refusal.TheVariants.{BadCode, BadSize, NoRoom, NoAllowance}
use Rattle.codes.specs.Codes.{lawful}
use Rattle.codes.specs.declared.table.Code.{Code}
use Rattle.codes.specs.declared.table.LawfulCode.{LawfulCode}
use Rattle.trellis.specs.Trellis.{Trellis, Path, allowed}
use Rattle.trellis.specs.Verdict.{Entry, onto, verdict}
use Rattle.trellis.specs.Search.{Row, row_at, Tried, Outcome, found, full, spent, Ended, searched}
use Rattle.trellis.specs.Safe.{Safe}
use Rattle.blocks.specs.Bounds.{heaviest}
use Rattle.blocks.specs.Machines.{states_of, trellis_under}
use Rattle.store.specs.declared.Held.{Held}
use Rattle.store.specs.Memory.{row_of, Small, Shown, showing}
use Rattle.store.specs.Limits.{words_per_node}
use Rattle.search.specs.Limits.{largest_room}
use Rattle.blocks.specs.declared.block.Block.{Block}
use Rattle.search.specs.Decoding.{sizes_fit, given}
use Rattle.search.specs.declared.seen.Settled.{Settled}
use Rattle.search.specs.declared.step.Full.{Full}
use Rattle.search.specs.declared.run.Terminal.{Terminal}

-- the base counts least paths up to two: one, or more than one
abbrev pub cap : ℕ
cap = 2

-- ---- what is asked

-- the memory that was lent has words for as many rows as the room says
pub record Lent (room words : ℕ) : Type 0 where
  pub small : room ≤ largest_room
  pub enough : words_per_node * room ≤ words

-- and holds no more rows
pub record Roomy (nodes : Shown) (room : ℕ) : Type 0 where
  pub most : length nodes.rows ≤ room
  pub lent : Lent room nodes.words

-- a node of a block's trellis, at a cost that some path has
pub record Fitting (b : Block) (e : Entry) : Type 0 where
  pub state : e.node.state < states_of b.machine
  pub cost : e.cost < heaviest

-- what leaves a row at an index: its node and its numbers fit, and the input is allowed there
pub record Leaving (b : Block) (from : Held) (i input : ℕ) : Type 0 where
  pub fitting : Fitting b (row_of from).entry
  pub small : Small from
  pub within : i < largest_room
  pub allows : input < allowed (trellis_under b) from.level

-- row i of the rows that the memory holds can be gone on from
pub record Steppable (t : Trellis) (nodes : Shown) (room i : ℕ) : Type 0 where
  pub roomy : Roomy nodes room
  pub within : i < length nodes.rows
  pub safe : Safe t cap room nodes.rows

-- ---- what is made

-- what a branch brings from a row at an index: `arrival` of the pure search
abbrev pub brought : Trellis → Row → ℕ → ℕ → Row
brought t r i b = record { entry = onto t r.entry b; count = r.count; parent = i; input = b; closed = false }

-- the memory shows what a try of the pure search left, and the answer is whether it had room
pub record Tries (first nodes : Shown) (room : ℕ) (r : Result (Unit {0}) Full) (p : Tried) : Type 0 where
  pub shows : nodes ≡ showing first p.rows
  pub most : length p.rows ≤ room
  pub full : is_err r ≡ p.full

-- how the search ended, as the run answers it
abbrev pub answer_of : Outcome → Result Terminal Refusal
answer_of (found metric steps count row) = Ok (record { metric = metric; steps = steps; count = count; row = row })
answer_of (full steps) = Err (NoRoom steps)
answer_of (spent steps) = Err (NoAllowance steps)

-- the memory shows the rows that the search left, and the answer is how it ended
pub record Halts (first nodes : Shown) (room : ℕ) (r : Result Terminal Refusal) (e : Ended) : Type 0 where
  pub shows : nodes ≡ showing first e.rows
  pub most : length e.rows ≤ room
  pub answer : r ≡ answer_of e.outcome

-- the rows on the way from a row at a level to the origin are there
unfoldable pub Traceable : List Row → ℕ → ℕ → Type 0
Traceable rows zero i = Unit {0}
Traceable rows (suc level) i = (i < length rows) × Traceable rows level (row_at rows i).parent

-- a message buffer with the first l inputs of a path of so many levels in front, the first first
abbrev pub in_front : ℕ → ℕ → Path → List ℕ → List ℕ
in_front l level path message = reverse (drop (level - l) path) ++ drop (min level l) message

-- ---- what it came to

-- the search found the terminal, its least path is alone, and the memory shows the rows
pub record Answer (t : Trellis) (room allowance : ℕ) (first nodes : Shown) (s : Settled) : Type 0 where
  pub shows : nodes ≡ showing first (searched t cap room allowance).rows
  pub most : length nodes.rows ≤ room
  pub count : ℕ
  pub alone : count ≤ 1
  pub outcome : (searched t cap room allowance).outcome ≡ found s.found.metric s.found.steps count s.row
  -- the metric fits 32 bits
  pub light : s.found.metric < heaviest

-- what the search over a block came to: an answer, or a refusal that is the verdict's
abbrev pub Searches : (t : Trellis) (room allowance : ℕ) (first nodes : Shown) → Result Settled Refusal → Type 0
Searches t room allowance first nodes r =
    MatchResult r (Answer t room allowance first nodes)
    (λ why. (message : List ℕ) → handed (refused why) message ≡ given (verdict t room allowance) message)

-- a code and sizes that passed the tests
pub record Passed (c : Code) (l symbols room words buffer : ℕ) (kept : LawfulCode) : Type 0 where
  pub code : kept.code ≡ c
  pub fits : sizes_fit c l symbols room words buffer ≡ true

-- the first test that failed
pub data Failed (c : Code) (l symbols room words buffer : ℕ) : Refusal → Type 0 where
  outside : lawful c ≡ false → Failed c l symbols room words buffer BadCode
  missized : lawful c ≡ true → sizes_fit c l symbols room words buffer ≡ false → Failed c l symbols room words buffer BadSize

-- what the tests of a decode came to
abbrev pub Tests : (c : Code) (l symbols room words buffer : ℕ) → Result LawfulCode Refusal → Type 0
Tests c l symbols room words buffer r = MatchResult r (Passed c l symbols room words buffer) (Failed c l symbols room words buffer)
