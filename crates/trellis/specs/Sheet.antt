-- The conditions A to D of a decision sheet, and the honest sheet: document 01, 'The decision sheet', over a list of entries.
-- Believed, and read after Verdict. The sheet's bytes are not here. Assumes nothing.
use Rattle.std.specs.Prelude.{List, [], ◌∷◌, map, Bool, true, not, ◌&&◌, ◌||◌, ℕ, eqb, ltb, leb}
use Rattle.lists.specs.Lists.{all, any, keep, sort, below}
use Rattle.trellis.specs.Trellis.{Trellis, Path, Node, same, allowed, ends, metric, end_node, origin, reachable}
use Rattle.trellis.specs.Verdict.{Entry, priced, earlier, onto}

-- a node is listed with just this cost
unfoldable pub listed_as : List Entry → Node → ℕ → Bool
listed_as sheet x c = any (λ e. same e.node x && eqb e.cost c) sheet

-- a node is listed with a cost of at most this
unfoldable pub listed_within : List Entry → Node → ℕ → Bool
listed_within sheet x c = any (λ e. same e.node x && leb e.cost c) sheet

-- every allowed branch from every entry passes the test
abbrev pub all_branches : Trellis → List Entry → (Entry → ℕ → Bool) → Bool
all_branches t sheet p = all (λ e. all (p e) (below (allowed t e.node.level))) sheet

-- A: 'The origin is listed with cost 0.'
unfoldable pub condition_a : List Entry → Bool
condition_a sheet = listed_as sheet origin 0

-- B: 'For each entry of cost c, and each allowed successor reached by a branch of cost b with c + b at most M, that successor is
-- listed with a cost of at most c + b.'
unfoldable pub condition_b : Trellis → ℕ → List Entry → Bool
condition_b t m sheet = all_branches t sheet (λ e b. ltb m (onto t e b).cost || listed_within sheet (onto t e b).node (onto t e b).cost)

-- C: 'Every node of the message's own path is listed, its cost exactly the metric so far'
unfoldable pub condition_c : Trellis → List Entry → Path → Bool
condition_c t sheet [] = listed_as sheet origin 0
condition_c t sheet (a ∷ p) = listed_as sheet (end_node t (a ∷ p)) (metric t (a ∷ p)) && condition_c t sheet p

-- D: 'Wherever an allowed branch from an entry enters a node of that path and is not a branch of the path, c + b is more than the
-- path's metric there.'
unfoldable pub condition_d : Trellis → List Entry → Path → Bool
condition_d t sheet [] = true
condition_d t sheet (a ∷ p) =
    all_branches t sheet (λ e b.
    not (same (onto t e b).node (end_node t (a ∷ p))) ||
    (eqb e.node.state (ends t p) && eqb b a) ||
    ltb (metric t (a ∷ p)) (onto t e b).cost) &&
    condition_d t sheet p

-- 'It accepts exactly if all of these hold'; 'the last is M' stands with C
unfoldable pub carries : Trellis → ℕ → List Entry → Path → Bool
carries t m sheet p = condition_a sheet && condition_b t m sheet && (condition_c t sheet p && eqb (metric t p) m) && condition_d t sheet p

-- 'An honest sheet lists exactly the reachable nodes of cost at most M, terminal included, with their costs', by level, then state
unfoldable pub honest : Trellis → ℕ → List Entry
honest t m = sort (λ x y. earlier x.node y.node) (keep (λ e. leb e.cost m) (map (priced t) (reachable t)))
