-- The search as functions on a list of rows: what the program does in memory, step for step and in the same order.
-- Rows and the store's functions; one branch; one node; the run; the trace; the outcome read as a verdict. All of them compute.
-- Not believed: proofs/Searched shows that the outcome is the verdict of document 01, which alone says what a decode must answer.
-- Assumes nothing.
use Rattle.std.specs.Prelude.{List, [], ◌∷◌, ◌++◌, Bool, true, false, cond, not, ◌&&◌, ℕ, zero, suc, ◌+◌, min, eqb, ltb, leb, length, get_or, drop, reverse, set}
use Rattle.trellis.specs.Trellis.{Trellis, Path, Node, same, top, allowed, terminal}
use Rattle.trellis.specs.Verdict.{Entry, entry, earlier, before, Verdict, answered, room_short, allowance_spent, tied, onto}

-- ---- rows

-- A node that was met. A row never moves, so its index names it.
pub record Row : Type 0 where
  -- the node, with the least cost found so far
  pub entry : Entry
  -- how many paths of that cost were found, stopped at the cap
  pub count : ℕ
  -- the row before this one on such a path, and the input between them
  pub parent : ℕ
  pub input : ℕ
  -- the node was expanded
  pub closed : Bool

-- what stands behind the last row; the search reads no such row
abbrev pub no_row : Row
no_row = record { entry = entry 0 0 0; count = 0; parent = 0; input = 0; closed = true }

-- row i
abbrev pub row_at : List Row → ℕ → Row
row_at rows i = get_or rows i no_row

-- the parts of a row that are asked for most
abbrev pub entry_at : List Row → ℕ → Entry
entry_at rows i = (row_at rows i).entry

abbrev pub node_at : List Row → ℕ → Node
node_at rows i = (row_at rows i).entry.node

abbrev pub cost_at : List Row → ℕ → ℕ
cost_at rows i = (row_at rows i).entry.cost

-- ---- the store

-- the origin alone
abbrev pub started : List Row
started = record { entry = entry 0 0 0; count = 1; parent = 0; input = 0; closed = false } ∷ []

-- the index of the eligible row that is first in an order, of equal ones the first; the number of rows if none is eligible
unfoldable pub first_by : (eligible : Row → Bool) (ahead : Row → Row → Bool) → List Row → ℕ
first_by eligible ahead [] = 0
first_by eligible ahead (r ∷ rows) =
    let rest : ℕ = first_by eligible ahead rows in
    cond (eligible r) (cond (ltb rest (length rows) && ahead (row_at rows rest) r) (suc rest) 0) (suc rest)

-- a node's row: no row stands ahead of another
unfoldable pub find_row : Node → List Row → ℕ
find_row x = first_by (λ r. same r.entry.node x) (λ r s. false)

-- the open row that is first in node order
unfoldable pub first_open : List Row → ℕ
first_open = first_by (λ r. not r.closed) (λ r s. before r.entry s.entry)

-- the closed row whose node comes next after x, by level, then state
unfoldable pub next_closed : Node → List Row → ℕ
next_closed x = first_by (λ r. r.closed && earlier x r.entry.node) (λ r s. earlier r.entry.node s.entry.node)

-- a row at the end
abbrev pub added : List Row → Row → List Row
added rows r = rows ++ (r ∷ [])

-- a cheaper way to the node of row i: all of the row but the node is new
abbrev pub lowered : (rows : List Row) (i : ℕ) (r : Row) → List Row
lowered rows i r = set rows i r

-- so many more paths of the same cost
abbrev pub gained : (cap more : ℕ) → Row → Row
gained cap more r = record { entry = r.entry; count = min cap (r.count + more); parent = r.parent; input = r.input; closed = r.closed }

-- so many more paths to the node of row i
abbrev pub joined : (cap : ℕ) (rows : List Row) (i more : ℕ) → List Row
joined cap rows i more = set rows i (gained cap more (row_at rows i))

-- the row expanded
abbrev pub shut : Row → Row
shut r = record { entry = r.entry; count = r.count; parent = r.parent; input = r.input; closed = true }

-- row i is expanded
abbrev pub closed : (rows : List Row) (i : ℕ) → List Row
closed rows i = set rows i (shut (row_at rows i))

-- ---- one branch and one node

-- the rows after a try; full if there was no room for a row more
pub record Tried : Type 0 where
  pub rows : List Row
  pub full : Bool

-- what the branch from row i with input b brings to the node where it leads
abbrev pub arrival : (t : Trellis) (rows : List Row) (i b : ℕ) → Row
arrival t rows i b = record { entry = onto t (entry_at rows i) b; count = (row_at rows i).count; parent = i; input = b; closed = false }

-- An arrival a entered, k being the index of its node's row: a new node's row is added if there is room; a known node's row is lowered
-- if the arrival is cheaper, joined if it costs the same, left if it is dearer.
unfoldable pub entered : (cap room : ℕ) (rows : List Row) (a : Row) (k : ℕ) → Tried
entered cap room rows a k =
    cond (ltb k (length rows))
    (cond (ltb a.entry.cost (cost_at rows k)) (record { rows = lowered rows k a; full = false })
    (cond (eqb a.entry.cost (cost_at rows k)) (record { rows = joined cap rows k a.count; full = false })
    (record { rows = rows; full = false })))
    (cond (ltb (length rows) room) (record { rows = added rows a; full = false })
    (record { rows = rows; full = true }))

-- the branch from row i with input b
unfoldable pub relax : (t : Trellis) (cap room i b : ℕ) → List Row → Tried
relax t cap room i b rows = let a : Row = arrival t rows i b in entered cap room rows a (find_row a.entry.node rows)

-- go on where there was room
unfoldable pub onward : Tried → (List Row → Tried) → Tried
onward r go = let next : Tried = go r.rows in cond r.full r next

-- so many branches from row i, from input b upwards, up to the first that has no room
unfoldable pub fan : (t : Trellis) (cap room i left b : ℕ) → List Row → Tried
fan t cap room i zero b rows = record { rows = rows; full = false }
fan t cap room i (suc left) b rows = onward (relax t cap room i b rows) (λ next. fan t cap room i left (suc b) next)

-- row i closed, then all of its branches
unfoldable pub expand : (t : Trellis) (cap room i : ℕ) → List Row → Tried
expand t cap room i rows = fan t cap room i (allowed t (node_at rows i).level) 0 (closed rows i)

-- ---- the run

-- the three ways in which the search ends
pub data Outcome : Type 0 where
  -- the terminal is first: its cost, the steps, how many least paths it has up to the cap, its row
  found : (metric steps count row : ℕ) → Outcome
  -- no room for a node more in the step after these
  full : (steps : ℕ) → Outcome
  -- no step more is allowed
  spent : (steps : ℕ) → Outcome

-- how the search ended, and the rows that it left
pub record Ended : Type 0 where
  pub rows : List Row
  pub outcome : Outcome

-- the terminal is first: nothing more is done
abbrev pub arrived : (rows : List Row) (i steps : ℕ) → Ended
arrived rows i steps = record { rows = rows; outcome = found (cost_at rows i) steps (row_at rows i).count i }

-- from the rows after so many steps, with so many more allowed: take the first open row, end if it is the terminal's, else expand it
unfoldable pub run : (t : Trellis) (cap room left steps : ℕ) → List Row → Ended
run t cap room zero steps rows =
    let i : ℕ = first_open rows in
    cond (same (node_at rows i) (terminal t)) (arrived rows i steps) (record { rows = rows; outcome = spent steps })
run t cap room (suc left) steps rows =
    let i : ℕ = first_open rows in
    let next : Tried = expand t cap room i rows in
    let rest : Ended = run t cap room left (suc steps) next.rows in
    let further : Ended = cond next.full (record { rows = next.rows; outcome = full steps }) rest in
    cond (same (node_at rows i) (terminal t)) (arrived rows i steps) further

-- the whole search: without room for the origin it does nothing
unfoldable pub searched : (t : Trellis) (cap room allowance : ℕ) → Ended
searched t cap zero allowance = record { rows = []; outcome = full 0 }
searched t cap (suc room) allowance = run t cap (suc room) allowance 0 started

-- ---- the answer

-- the path to a row at a level: its input, then that of the row before it, one level lower each time
unfoldable pub trace : (rows : List Row) (level i : ℕ) → Path
trace rows zero i = []
trace rows (suc level) i = (row_at rows i).input ∷ trace rows level (row_at rows i).parent

-- the message of a path to the terminal: the tail dropped, the first input first
abbrev pub message_of : Trellis → Path → List ℕ
message_of t p = reverse (drop t.tail p)

-- an outcome as a verdict: one least path is an answer, more are a tie
unfoldable pub read : Trellis → List Row → Outcome → Verdict
read t rows (found metric steps count row) =
    cond (leb count 1) (answered (message_of t (trace rows (top t) row)) metric steps) (tied metric steps)
read t rows (full steps) = room_short steps
read t rows (spent steps) = allowance_spent steps

-- how the search ended, as a verdict
abbrev pub verdict_of : Trellis → Ended → Verdict
verdict_of t e = read t e.rows e.outcome
