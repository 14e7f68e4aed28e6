-- Nodes in lent memory: the words of a row, the rows that the memory shows, and what callers see of it. Only this
-- crate opens rows_of: callers go by the contracts, which speak of Shown alone. Not believed. Assumes nothing.
use Rattle.std.specs.Prelude.{List, [], ◌∷◌, ◌++◌, cond, ℕ, zero, suc, ◌+◌, ◌*◌, ◌/◌, ◌%◌, ◌^◌, ◌<◌, eqb, ltb, Option, Some, None, length, get_or, set}
use Rattle.trellis.specs.Verdict.{Entry, entry}
use Rattle.trellis.specs.Search.{Row}
use Rattle.store.specs.Limits.{words_per_node}
use Rattle.store.specs.declared.Held.{Held}

-- ---- a row

-- the row that a value of the program stands for
abbrev pub row_of : Held → Row
row_of r = record {
  entry = entry r.cost r.level r.state;
  count = r.count;
  parent = r.parent;
  input = r.input;
  closed = r.closed;
}

-- ---- its words

-- how many states and levels an order word tells apart, and how many nodes in all
abbrev pub states : ℕ
states = 65536

abbrev pub levels : ℕ
levels = 1024

abbrev pub nodes : ℕ
nodes = 67108864

-- how many counts, inputs and parents a rest word tells apart
abbrev pub counts : ℕ
counts = 256

abbrev pub inputs : ℕ
inputs = 256

abbrev pub parents : ℕ
parents = 8192

-- and where each of them begins: above the bit of a closed row, above the counts, above the inputs
abbrev pub count_place : ℕ
count_place = 2

abbrev pub input_place : ℕ
input_place = 512

abbrev pub parent_place : ℕ
parent_place = 131072

-- and how many costs stand above a node in its word
abbrev pub costs : ℕ
costs = 2 ^ 38

-- a row that the words can hold
pub record Small (r : Held) : Type 0 where
  pub cost : r.cost < costs
  pub level : r.level < levels
  pub state : r.state < states
  pub count : r.count < counts
  pub parent : r.parent < parents
  pub input : r.input < inputs

-- The order word: cost, level and state as one number. Two of them compare as cost, then level, then state do.
abbrev pub order_word : Held → ℕ
order_word r = r.cost * nodes + r.level * states + r.state

-- The other word: parent, input and count, and in the last bit whether the row is closed.
abbrev pub rest_word : Held → ℕ
rest_word r = r.parent * parent_place + r.input * input_place + r.count * count_place + cond r.closed 1 0

-- the node and its cost that an order word holds
abbrev pub entry_from : ℕ → Entry
entry_from order = entry (order / nodes) (order / states % levels) (order % states)

-- the row that both words hold
unfoldable pub row_from : ℕ → ℕ → Row
row_from order rest = record {
  entry = entry_from order;
  count = rest / count_place % counts;
  parent = rest / parent_place % parents;
  input = rest / input_place % inputs;
  closed = eqb (rest % count_place) 1;
}

-- ---- the memory

-- where the words of row i begin: the order, the rest, and one that is free
abbrev pub words_at : ℕ → ℕ
words_at i = words_per_node * i

-- the order word of row i
abbrev pub order_at : List ℕ → ℕ → ℕ
order_at work i = get_or work (words_at i) 0

-- the other word of row i
abbrev pub rest_at : List ℕ → ℕ → ℕ
rest_at work i = get_or work (words_at i + 1) 0

-- the first n rows
unfoldable pub rows_of : List ℕ → ℕ → List Row
rows_of work zero = []
rows_of work (suc n) = rows_of work n ++ (row_from (order_at work n) (rest_at work n) ∷ [])

-- the memory with the words of row i written
abbrev pub written : List ℕ → ℕ → Held → List ℕ
written work i r = set (set work (words_at i) (order_word r)) (words_at i + 1) (rest_word r)

-- ---- what callers see

-- how many words the memory has, and the rows that it shows
pub record Shown : Type 0 where
  pub words : ℕ
  pub rows : List Row

-- the same memory with other rows
abbrev pub showing : Shown → List Row → Shown
showing s rows = record { words = s.words; rows = rows }

-- an index found among the rows: none if it is their number
abbrev pub found_at : List Row → ℕ → Option ℕ
found_at rows i = cond (ltb i (length rows)) (Some i) None
