-- A trellis, its paths and their metrics, its nodes and their costs: document 01, 'Weight, metric, node', over any number of inputs.
-- What a branch costs and where it leads is the trellis's own business: no code, no symbol and no width appears here.
-- Believed, and read first. The order of nodes and the verdict are in Verdict, the conditions of a sheet in Sheet. Assumes nothing.
use mathlib.Core.List.{List, [], ◌∷◌, map, flat_map}
use Rattle.std.specs.Prelude.{Bool, cond, ◌&&◌, ℕ, zero, suc, ◌+◌, eqb, ltb, length}
use Rattle.lists.specs.Lists.{keep, distinct, below, least}

-- What a code and a block come to.
pub record Trellis : Type 0 where
  -- L: the steps of the message
  pub span : ℕ
  -- the steps of the zero tail after it
  pub tail : ℕ
  -- how many inputs a step of the message can have
  pub inputs : ℕ
  -- the state that a state and an input lead to
  pub next : ℕ → ℕ → ℕ
  -- what the branch costs that leaves a level and a state with an input
  pub price : ℕ → ℕ → ℕ → ℕ

-- the level of the terminal: L and the tail
abbrev pub top : Trellis → ℕ
top t = t.span + t.tail

-- 'A node below level L has two successors; from level L on, only input 0 is allowed, and a node at level L+m has no successor':
-- how many inputs are allowed at a level, two being the number of inputs of a message's step
unfoldable pub allowed : Trellis → ℕ → ℕ
allowed t level = cond (ltb level t.span) t.inputs (cond (ltb level (top t)) 1 0)

-- ---- paths

-- A path is the list of its inputs, the LATEST FIRST. It starts at level 0 in state 0, and its level is its length.
abbrev pub Path : Type 0
Path = List ℕ

-- the state where a path ends
unfoldable pub ends : Trellis → Path → ℕ
ends t [] = 0
ends t (b ∷ p) = t.next (ends t p) b

-- a number of each branch, added up along a path
unfoldable pub along : Trellis → (ℕ → ℕ → ℕ → ℕ) → Path → ℕ
along t f [] = 0
along t f (b ∷ p) = along t f p + f (length p) (ends t p) b

-- 'A path's metric is the sum of the weights where its output differs from the hard bit': the prices of its branches, added up
abbrev pub metric : Trellis → Path → ℕ
metric t p = along t t.price p

-- all paths of so many branches
unfoldable pub paths : Trellis → ℕ → List Path
paths t zero = [] ∷ []
paths t (suc k) = flat_map (λ p. map (λ b. b ∷ p) (below (allowed t k))) (paths t k)

-- ---- nodes

-- 'A node is a level (0 to L+m) together with a state.'
pub record Node : Type 0 where
  pub level : ℕ
  pub state : ℕ

-- the same, short
abbrev pub node : ℕ → ℕ → Node
node l s = record { level = l; state = s }

-- one node: 'Level and every state bit count.'
abbrev pub same : Node → Node → Bool
same x y = eqb x.level y.level && eqb x.state y.state

-- 'The origin is (0, 0), the terminal (L+m, 0).'
abbrev pub origin : Node
origin = node 0 0

abbrev pub terminal : Trellis → Node
terminal t = node (top t) 0

-- the nodes that the allowed branches of a node lead to
unfoldable pub successors : Trellis → Node → List Node
successors t x = map (λ b. node (suc x.level) (t.next x.state b)) (below (allowed t x.level))

-- the node where a path ends
abbrev pub end_node : Trellis → Path → Node
end_node t p = node (length p) (ends t p)

-- the paths that end at a node
unfoldable pub paths_to : Trellis → Node → List Path
paths_to t x = keep (λ p. eqb (ends t p) x.state) (paths t x.level)

-- 'A node is reachable if a path from the origin ends there': the reachable nodes, each once
unfoldable pub reachable : Trellis → List Node
reachable t = distinct same (map (end_node t) (flat_map (paths t) (below (suc (top t)))))

-- 'Its cost is the least metric of such paths.'
unfoldable pub cost : Trellis → Node → ℕ
cost t x = least (map (metric t) (paths_to t x))
