-- Node order, E, D(j) and the verdict for a room R and an allowance B: document 01, 'Node order' and what follows it.
-- Believed, and read after Trellis. Assumes nothing.
use mathlib.Core.List.{List, [], ◌∷◌, ◌++◌, map, flat_map, reverse}
use Rattle.std.specs.Prelude.{Bool, cond, ◌&&◌, ◌||◌, ℕ, zero, suc, ◌+◌, min, eqb, ltb, leb, length, take, replicate}
use Rattle.lists.specs.Lists.{keep, distinct, sort, below, least}
use Rattle.trellis.specs.Trellis.{Trellis, Path, Node, node, same, origin, terminal, successors, reachable, cost, metric}

-- ---- node order

-- a node with a cost
pub record Entry : Type 0 where
  pub cost : ℕ
  pub node : Node

-- the same, short
abbrev pub entry : ℕ → ℕ → ℕ → Entry
entry c l s = record { cost = c; node = node l s }

-- a node with its own cost
abbrev pub priced : Trellis → Node → Entry
priced t x = record { cost = cost t x; node = x }

-- where the branch from an entry with an input leads, with c + b, the entry's cost and the branch's
abbrev pub onto : Trellis → Entry → ℕ → Entry
onto t e b = entry (e.cost + t.price e.node.level e.node.state b) (suc e.node.level) (t.next e.node.state b)

-- 'then level, then state'
abbrev pub earlier : Node → Node → Bool
earlier x y = ltb x.level y.level || (eqb x.level y.level && ltb x.state y.state)

-- 'by cost, then level, then state'
abbrev pub before : Entry → Entry → Bool
before x y = ltb x.cost y.cost || (eqb x.cost y.cost && earlier x.node y.node)

-- 'Reachable nodes are ranked by cost, then level, then state, smallest first.'
unfoldable pub ranked : Trellis → List Entry
ranked t = sort before (map (priced t) (reachable t))

-- E: 'the number of nodes before the terminal'
unfoldable pub steps : Trellis → ℕ
steps t = length (keep (λ x. before x (priced t (terminal t))) (ranked t))

-- D(j): 'the number of distinct nodes that are the origin or a successor of one of the first j nodes'
unfoldable pub met : Trellis → ℕ → ℕ
met t j = length (distinct same (origin ∷ flat_map (λ x. successors t x.node) (take j (ranked t))))

-- ---- messages

-- all lists of so many inputs
unfoldable pub words : ℕ → ℕ → List (List ℕ)
words inputs zero = [] ∷ []
words inputs (suc k) = flat_map (λ w. map (λ b. b ∷ w) (below inputs)) (words inputs k)

-- 'A message has L bits': all messages, each with its first input first
unfoldable pub messages : Trellis → List (List ℕ)
messages t = words t.inputs t.span

-- 'After the L message bits come m zero bits': the path of a message, the latest input first as in every path
unfoldable pub path_of : Trellis → List ℕ → Path
path_of t w = replicate t.tail 0 ++ reverse w

-- 'the least metric', that of a message
unfoldable pub least_metric : Trellis → ℕ
least_metric t = least (map (λ w. metric t (path_of t w)) (messages t))

-- the messages that have it; how many share it is their number
unfoldable pub least_messages : Trellis → List (List ℕ)
least_messages t = keep (λ w. eqb (metric t (path_of t w)) (least_metric t)) (messages t)

-- ---- the verdict

-- the answers 0, 3, 4 and 5 with what each hands back
pub data Verdict : Type 0 where
  -- 0: the message, its metric and E
  answered : (message : List ℕ) (metric steps : ℕ) → Verdict
  -- 3, room: 'steps: the greatest j with D(j) at most R, or 0 if none'
  room_short : (steps : ℕ) → Verdict
  -- 4, allowance: 'steps B'
  allowance_spent : (steps : ℕ) → Verdict
  -- 5, tied: 'least metric and steps E'
  tied : (metric steps : ℕ) → Verdict

-- 'the greatest j with D(j) at most R, or 0 if none', of the j up to k; where D(k) is above R no greater j fits (proofs/LastFit)
unfoldable pub last_fit : Trellis → ℕ → ℕ → ℕ
last_fit t room zero = 0
last_fit t room (suc k) = cond (leb (met t (suc k)) room) (suc k) (last_fit t room k)

-- '5 if two or more messages have it, 0 if one has'; some message always has it, so the first line is never read
unfoldable pub decided : Trellis → List (List ℕ) → Verdict
decided t [] = tied (least_metric t) (steps t)
decided t (w ∷ []) = answered w (least_metric t) (steps t)
decided t (w ∷ v ∷ more) = tied (least_metric t) (steps t)

-- 'let s be the smaller of E and B. If D(s) > R the answer is 3. Otherwise, if B < E, it is 4. Otherwise the least metric is known'
unfoldable pub verdict : Trellis → ℕ → ℕ → Verdict
verdict t room allowance =
    let s : ℕ = min (steps t) allowance in
    cond (ltb room (met t s)) (room_short (last_fit t room s))
    (cond (ltb allowance (steps t)) (allowance_spent allowance)
    (decided t (least_messages t)))
