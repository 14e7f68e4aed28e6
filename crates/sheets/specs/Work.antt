-- What the parts of the check promise each other: the entries as their own bytes say them, the cost that is listed for a node, and the
-- tests of one branch, over any trellis. Not believed: what the check answers is said in Checking alone. Assumes nothing.
use Rattle.std.specs.Prelude.{◌≡◌, List, [], ◌∷◌, ◌++◌, map, Option, Some, None, Bool, true, false, cond, not, ◌&&◌, ◌||◌, ℕ, ◌+◌, ◌-◌, ◌*◌, ◌≤◌, eqb, ltb, leb, length}
use Rattle.lists.specs.Lists.{all, below}
use Rattle.desk.specs.Desk.{Handed}
use Rattle.codes.specs.Limits.{longest_message}
use Rattle.trellis.specs.Trellis.{Trellis, Node, node, top, same, allowed}
use Rattle.trellis.specs.Verdict.{Entry, onto}
use Rattle.blocks.specs.Machines.{states_of, trellis_under}
use Rattle.blocks.specs.Walks.{visit_at}
use Rattle.blocks.specs.declared.block.Block.{Block}
use Rattle.blocks.specs.declared.walk.Visit.{Visit}
use Rattle.sheets.specs.Bytes.{series, bytes_of, kind, number_at, count_place, entries_place, entry_at, sheet_read}
use Rattle.sheets.specs.Checking.{most_entries, rising, inside, formed, check_desk}
use Rattle.sheets.specs.declared.entries.Entry as entries

-- ---- a block as it was seen

-- whether bytes have a good form for it
abbrev pub formed_for : Block → List ℕ → Bool
formed_for b bytes = formed b.bits (top (trellis_under b)) (states_of b.machine) bytes

-- what the check of it hands back: the rules and the sizes were tested before
abbrev pub checking_seen : Block → (bytes message : List ℕ) → Handed (List ℕ)
checking_seen b bytes message = check_desk true true (formed_for b bytes) (trellis_under b) (sheet_read b.bits bytes) message

-- ---- the size

-- the size of a sheet of so many entries
abbrev pub sheet_size : ℕ → ℕ → ℕ
sheet_size l count = entries_place l + 8 * count

-- ---- the entries

-- what eight bytes say
abbrev pub entry_said : List ℕ → entries.Entry
entry_said bytes = record {
  node = record { level = number_at 2 0 bytes; state = number_at 2 2 bytes };
  cost = number_at 4 4 bytes;
}

-- the entries that so many times eight bytes say
unfoldable pub entries_in : List (List ℕ) → List Entry
entries_in chunks = map (λ bytes. entry_at bytes 0) chunks

-- the cost that a list gives a node, if it is listed
unfoldable pub listed_cost : List Entry → Node → Option ℕ
listed_cost [] x = None
listed_cost (e ∷ es) x = let rest : Option ℕ = listed_cost es x in cond (same e.node x) (Some e.cost) rest

-- a cost that is there and passes a test
abbrev pub some_and : Option ℕ → (ℕ → Bool) → Bool
some_and None p = false
some_and (Some c) p = p c

-- ---- the tests

-- C at a level: the path's node is listed, its cost the metric so far
abbrev pub on_path : List Entry → List Visit → ℕ → Bool
on_path es path j = some_and (listed_cost es (node j (visit_at path j).state)) (λ c. eqb c (visit_at path j).metric)

-- B for what a branch brings
abbrev pub goes_on : List Entry → ℕ → Entry → Bool
goes_on es m a = ltb m a.cost || some_and (listed_cost es a.node) (λ c. leb c a.cost)

-- D for a branch from a level and a state to the next state, at a cost in all. A state and the next one tell the input, so the states
-- alone tell whether the branch is the path's own.
abbrev pub clear : List Visit → ℕ → ℕ → ℕ → ℕ → Bool
clear path level state next total =
    not (eqb next (visit_at path (level + 1)).state) || eqb state (visit_at path level).state || ltb (visit_at path (level + 1)).metric total

-- both, for the branch from an entry with an input
abbrev pub passing : Trellis → List Entry → ℕ → List Visit → Entry → ℕ → Bool
passing t es m path e b =
    goes_on es m (onto t e b) && clear path e.node.level e.node.state (onto t e b).node.state (onto t e b).cost

-- both, for every branch of an entry
unfoldable pub all_passing : Trellis → List Entry → ℕ → List Visit → Entry → Bool
all_passing t es m path e = all (passing t es m path e) (below (allowed t e.node.level))

-- all that the check tests of a claim: C at each level, 'the last is M', then B and D
unfoldable pub passes : Trellis → List Entry → ℕ → List Visit → Bool
passes t es m path =
    all (on_path es path) (series (top t + 1) (λ j. j)) &&
    eqb (visit_at path (top t)).metric m &&
    all (all_passing t es m path) es

-- ---- a sheet that is put into a buffer

-- the numbers in front of a sheet of so many entries
unfoldable pub head_bytes : ℕ → ℕ → ℕ → List ℕ
head_bytes l metric count =
    bytes_of 4 (sheet_size l count - 4) ++ (bytes_of 2 kind ++ bytes_of 2 l ++ bytes_of 4 metric ++ bytes_of 2 count)

-- what the parts of a sheet ask of a buffer
pub record Puttable (l count : ℕ) (buffer : List ℕ) : Type 0 where
  pub span : l ≤ longest_message
  pub most : count ≤ most_entries
  pub room : sheet_size l count ≤ length buffer

-- ---- what the parts of the check ask of their callers

-- a sheet whose message is all there
pub record Whole (l : ℕ) (bytes : List ℕ) : Type 0 where
  pub span : l ≤ longest_message
  pub size : entries_place l ≤ length bytes

-- a sheet with as many entries as it says
pub record Counted (l : ℕ) (bytes : List ℕ) : Type 0 where
  pub span : l ≤ longest_message
  pub size : length bytes ≡ sheet_size l (number_at 2 count_place bytes)

-- entries that rise and stay in a trellis of so many states, and a path to the top
pub record Branching (t : Trellis) (states : ℕ) (chunks : List (List ℕ)) (path : List Visit) : Type 0 where
  pub ordered : rising (entries_in chunks) ≡ true
  pub inside : all (inside (top t) states) (entries_in chunks) ≡ true
  pub visits : length path ≡ top t + 1
