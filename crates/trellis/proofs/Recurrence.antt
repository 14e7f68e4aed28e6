-- Law 1, level by level: a node above level 0 is reachable exactly if a predecessor is, and its cost is the least, over its reachable
-- predecessors, of their cost and the branch. What a sweep of the levels cites. Assumes nothing.
use mathlib.Core.Path.{◌≡◌, sym, ap, ◌∙◌, subst}
use mathlib.Core.List.{List, [], ◌∷◌, map, flat_map}
use Prim.Native.Nat.{ℕ, suc, ◌+◌, ◌≤◌, ◌<◌}
use native.Mathlib.Omega.{arith}
use lib.Dec.{T}
use lib.ListN.{length}
use Rattle.lists.specs.Lists.{keep, below, least}
use Rattle.lists.proofs.Membership.{◌∈◌, member_cast, keep_in, keep_out, map_in, map_out, flat_map_in, flat_map_out, below_in, below_out}
use Rattle.lists.proofs.Least.{least_le, least_of}
use Rattle.trellis.specs.Trellis.{Trellis, Path, Node, node, allowed, ends, along, metric, end_node, same, origin, reachable, cost, successors}
use Rattle.trellis.specs.Lawful.{Allowed, step, Ends}
use Rattle.trellis.proofs.Paths.{Reached, ends_here, node_path, same_equality, reachable_in, reachable_out}
use Rattle.trellis.proofs.Cost.{Cost, cost_is, cost_computed}

-- ---- branches

-- the node that a branch leads to
abbrev pub across : Trellis → Node → ℕ → Node
across t x b = node (suc x.level) (t.next x.state b)

-- what a branch costs
abbrev pub fare : Trellis → Node → ℕ → ℕ
fare t x b = t.price x.level x.state b

-- the branch that leaves `from` with `input` is allowed and enters x
pub record Enters (t : Trellis) (x : Node) (from : Node) (input : ℕ) : Type 0 where
  pub fits : input < allowed t from.level
  pub leads : x ≡ across t from input

-- the successors are the nodes that allowed branches enter
pub successors_in : {t : Trellis} {x y : Node} {b : ℕ} → Enters t y x b → y ∈ successors t x
unfolding successors
successors_in {t} {x} h = member_cast h.leads (map_in (across t x) (below_in (allowed t x.level) h.fits))

-- the branch by which y succeeds x
pub record Succeeds (t : Trellis) (x y : Node) : Type 0 where
  pub input : ℕ
  pub enters : Enters t y x input

-- and no others
pub successors_out : (t : Trellis) (x : Node) {y : Node} → y ∈ successors t x → Succeeds t x y
unfolding successors
successors_out t x m =
    let r = map_out (across t x) (below (allowed t x.level)) m in
    record { input = r.source; enters = record { fits = below_out (allowed t x.level) r.member; leads = r.equal } }

-- ---- a path and its last branch

-- a path goes on by an allowed branch
pub extend : {t : Trellis} {x y : Node} {b : ℕ} {p : Path} → Ends t y p → Enters t x y b → Ends t x (b ∷ p)
unfolding ends
extend {t} {b = b} {p = p} h k = record {
  allowed = step (subst (λ (l : ℕ). b < allowed t l) (sym h.level) k.fits) h.allowed;
  level = ap suc h.level ∙ ap (λ (z : Node). z.level) (sym k.leads);
  state = ap (λ (s : ℕ). t.next s b) h.state ∙ ap (λ (z : Node). z.state) (sym k.leads);
}

-- and then costs so much more
pub metric_extend : {t : Trellis} {y : Node} {p : Path} (b : ℕ) → Ends t y p → metric t (b ∷ p) ≡ metric t p + fare t y b
unfolding along
metric_extend {t} {p = p} b h = ap (λ (z : Node). metric t p + fare t z b) (node_path h.level h.state)

-- a path without its last branch ends at the node that the branch leaves
pub ends_rest : {t : Trellis} {x : Node} {b : ℕ} {p : Path} → Ends t x (b ∷ p) → Ends t (end_node t p) p
ends_rest h = go h.allowed
  where
    go : {t : Trellis} {b : ℕ} {p : Path} → Allowed t (b ∷ p) → Ends t (end_node t p) p
    go (step k al) = ends_here al

-- and the branch enters the path's node
pub ends_last : {t : Trellis} {x : Node} {b : ℕ} {p : Path} → Ends t x (b ∷ p) → Enters t x (end_node t p) b
unfolding ends
ends_last h = record { fits = go h.allowed; leads = node_path (sym h.level) (sym h.state) }
  where
    go : {t : Trellis} {b : ℕ} {p : Path} → Allowed t (b ∷ p) → b < allowed t (length p)
    go (step k al) = k

-- ---- costs by predecessors

-- a node costs at most what any branch into it brings
pub cost_enters : {t : Trellis} {x y : Node} {b c d : ℕ} → Cost t x c → Cost t y d → Enters t x y b → c ≤ d + fare t y b
cost_enters {b = b} h k e = omega (arith, h.least (b ∷ k.path) (extend k.there e), metric_extend b k.there, k.paid)

-- a branch into x from a node at that node's cost, and their sum c
pub record Predecessor (t : Trellis) (x : Node) (c : ℕ) : Type 0 where
  pub from : Node
  pub input : ℕ
  pub enters : Enters t x from input
  pub spent : ℕ
  pub known : Cost t from spent
  pub paid : spent + fare t from input ≡ c

-- what a least path ends with
pub predecessor : {t : Trellis} {x : Node} {c : ℕ} → 0 < x.level → Cost t x c → Predecessor t x c
predecessor {t} {x} {c} up h = go h.path h.there h.paid
  where
    go : (p : Path) → Ends t x p → metric t p ≡ c → Predecessor t x c
    go [] e m = absurd (omega (arith, e.level))
    go (b ∷ p) e m =
        let k : Cost t (end_node t p) (cost t (end_node t p)) = cost_is (ends_rest e) in
        let low : cost t (end_node t p) ≤ metric t p = k.least p (ends_rest e) in
        record {
          from = end_node t p;
          input = b;
          enters = ends_last e;
          spent = cost t (end_node t p);
          known = k;
          paid = omega (arith, metric_extend b (ends_rest e), cost_enters h k (ends_last e));
        }

-- ---- the recurrence, computed

-- what the branches from y into x bring, y being left at its cost; and from all reachable nodes
abbrev arrivals_from : Trellis → Node → Node → List ℕ
arrivals_from t x y = map (λ b. cost t y + fare t y b) (keep (λ b. same (across t y b) x) (below (allowed t y.level)))

unfoldable pub arrivals : Trellis → Node → List ℕ
arrivals t x = flat_map (arrivals_from t x) (reachable t)

-- to go from a predecessor to the list
pub arrivals_in : {t : Trellis} {x : Node} {c : ℕ} → Predecessor t x c → c ∈ arrivals t x
unfolding arrivals
arrivals_in {t} {x} {c} r =
    let y : Node = r.from in
    let fits = below_in (allowed t y.level) r.enters.fits in
    let leads : T (same (across t y r.input) x) = rw r.enters.leads (same_equality.complete (across t y r.input)) in
    let paid : c ≡ cost t y + fare t y r.input = omega (arith, r.paid, cost_computed r.known) in
    member_cast paid
    (flat_map_in (arrivals_from t x) (reachable_in r.known.there)
    (map_in (λ b. cost t y + fare t y b) (keep_in (λ b. same (across t y b) x) fits leads)))

-- and back
pub arrivals_out : (t : Trellis) (x : Node) {c : ℕ} → c ∈ arrivals t x → Predecessor t x c
unfolding arrivals
arrivals_out t x m =
    let r = flat_map_out (arrivals_from t x) (reachable t) m in
    let y : Node = r.source in
    let a = map_out (λ b. cost t y + fare t y b) (keep (λ b. same (across t y b) x) (below (allowed t y.level))) r.inner in
    let k = keep_out (λ b. same (across t y b) x) (below (allowed t y.level)) a.member in
    record {
      from = y;
      input = a.source;
      enters = record { fits = below_out (allowed t y.level) k.member; leads = sym (same_equality.sound (across t y a.source) x k.passes) };
      spent = cost t y;
      known = cost_is (reachable_out t r.member).there;
      paid = sym a.equal;
    }

-- the cost of a node above level 0 is the least of what its branches bring
pub cost_recurrence : {t : Trellis} {x : Node} {c : ℕ} → 0 < x.level → Cost t x c → c ≡ least (arrivals t x)
cost_recurrence {t} {x} up h =
    let m = arrivals_in (predecessor up h) in
    let r = arrivals_out t x (least_of m) in
    omega (arith, least_le (arrivals t x) m, cost_enters h r.known r.enters, r.paid)

-- ---- reachability by predecessors

-- a node is reachable exactly if it is the origin or a predecessor of it is
pub reached_step : {t : Trellis} {x y : Node} {b : ℕ} → Reached t y → Enters t x y b → Reached t x
reached_step {b = b} r e = record { path = b ∷ r.path; there = extend r.there e }

-- and back, with the predecessor that gives it its cost
pub reached_from : {t : Trellis} {x : Node} → 0 < x.level → Reached t x → Predecessor t x (cost t x)
reached_from up r = predecessor up (cost_is r.there)

-- at level 0 there is the origin alone
pub reached_origin : {t : Trellis} {x : Node} → x.level ≡ 0 → Reached t x → x ≡ origin
unfolding ends
reached_origin {t} {x} e r = go r.path r.there
  where
    go : (p : Path) → Ends t x p → x ≡ origin
    go [] h = node_path e (sym h.state)
    go (b ∷ p) h = absurd (omega (arith, h.level))
