-- Law 1, cost: the cost of a node is the least metric of the paths that end there, and some path has it. The same by predecessors is in
-- Recurrence. Assumes nothing.
use mathlib.Core.Path.{◌≡◌, refl, sym}
use mathlib.Core.List.{List, [], map}
use Prim.Native.Nat.{ℕ, ◌≤◌}
use native.Mathlib.Omega.{arith}
use lib.Dec.{eqb, eqb→eq, eqb_refl}
use lib.ListN.{length}
use Rattle.lists.specs.Lists.{keep}
use Rattle.lists.proofs.Membership.{◌∈◌, map_in, map_out, keep_in, keep_out}
use Rattle.lists.proofs.Unique.{Unique, keep_unique, same_length}
use Rattle.lists.proofs.Least.{least_le, least_of}
use Rattle.trellis.specs.Trellis.{Trellis, Path, Node, origin, along, metric, ends, paths_to, cost}
use Rattle.trellis.specs.Lawful.{start, Ends}
use Rattle.trellis.proofs.Paths.{paths_to_in, paths_to_out, paths_to_unique}

-- c is the least metric of the paths that end at x, and path has it
pub record Cost (t : Trellis) (x : Node) (c : ℕ) : Type 0 where
  pub path : Path
  pub there : Ends t x path
  pub paid : metric t path ≡ c
  pub least : (p : Path) → Ends t x p → c ≤ metric t p

-- the computed cost of a reachable node is its cost
pub cost_is : {t : Trellis} {x : Node} {p : Path} → Ends t x p → Cost t x (cost t x)
unfolding cost
cost_is {t} {x} h =
    let r = map_out (metric t) (paths_to t x) (least_of (map_in (metric t) (paths_to_in h))) in
    record {
      path = r.source;
      there = paths_to_out t x r.member;
      paid = sym r.equal;
      least = (λ p k. least_le (map (metric t) (paths_to t x)) (map_in (metric t) (paths_to_in k)));
    }

-- a node has one cost
pub cost_unique : {t : Trellis} {x : Node} {c d : ℕ} → Cost t x c → Cost t x d → c ≡ d
cost_unique h k = omega (arith, h.least k.path k.there, k.least h.path h.there, h.paid, k.paid)

-- so every cost is the computed one
pub cost_computed : {t : Trellis} {x : Node} {c : ℕ} → Cost t x c → c ≡ cost t x
cost_computed h = cost_unique h (cost_is h.there)

-- the search and the sweep start here
pub cost_origin : (t : Trellis) → Cost t origin 0
unfolding along ends
cost_origin t = record { path = []; there = record { allowed = start; level = refl; state = refl }; paid = refl; least = (λ p h. omega arith) }

-- ---- least paths

-- rs lists, each once, the paths to x that have the metric c: where c is the cost, the least paths
pub record LeastPaths (t : Trellis) (x : Node) (c : ℕ) (rs : List Path) : Type 0 where
  pub once : Unique rs
  pub there : (p : Path) → p ∈ rs → Ends t x p
  pub paid : (p : Path) → p ∈ rs → metric t p ≡ c
  pub full : (p : Path) → Ends t x p → metric t p ≡ c → p ∈ rs

-- how many least paths there are does not depend on who lists them
pub least_paths_length : {t : Trellis} {x : Node} {c : ℕ} {rs ss : List Path} → LeastPaths t x c rs → LeastPaths t x c ss → length rs ≡ length ss
least_paths_length {rs = rs} {ss = ss} r s =
    same_length rs ss r.once s.once (λ p m. s.full p (r.there p m) (r.paid p m)) (λ p m. r.full p (s.there p m) (s.paid p m))

-- and there is such a list
pub least_paths : (t : Trellis) (x : Node) (c : ℕ) → LeastPaths t x c (keep (λ p. eqb (metric t p) c) (paths_to t x))
least_paths t x c = record {
  once = keep_unique (λ p. eqb (metric t p) c) (paths_to t x) (paths_to_unique t x);
  there = (λ p m. paths_to_out t x (keep_out (λ p. eqb (metric t p) c) (paths_to t x) m).member);
  paid = (λ p m. eqb→eq (metric t p) c (keep_out (λ p. eqb (metric t p) c) (paths_to t x) m).passes);
  full = (λ p h e. keep_in (λ p. eqb (metric t p) c) (paths_to_in h) (rw e (eqb_refl c)));
}
