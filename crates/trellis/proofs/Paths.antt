-- For every law: the computed lists of paths and nodes hold what their names say: the allowed paths, those that end at a node, the
-- reachable nodes, each once. Costs are in Cost, what a path's last branch gives in Recurrence. Assumes nothing.
use mathlib.Core.Path.{◌≡◌, refl, sym, ap, ◌∙◌, subst}
use mathlib.Core.List.{[], map, flat_map}
use Prim.Native.Nat.{ℕ, zero, suc, ◌≤◌, ◌<◌}
use native.Mathlib.Omega.{arith}
use lib.Dec.{T, eqb, ltb, eqb→eq, eqb_refl, ltb→lt}
use borrow.Author.Tests.{lt-ltb, le-ltb, ltb-false}
use lib.ListN.{length}
use Rattle.lists.specs.Lists.{below}
use Rattle.lists.proofs.Tests.{and_in, and_out, test, false_out}
use Rattle.lists.proofs.Membership.{◌∈◌, here, nil_out, singleton_out, member_cast, keep_in, keep_out, map_in, map_out, flat_map_in, flat_map_out, below_in}
use Rattle.lists.proofs.Unique.{Unique, keep_unique}
use Rattle.lists.proofs.Distinct.{Equality, distinct_in, distinct_out, distinct_unique}
use Rattle.lists.proofs.Words.{grown_in, grown_out, grown_unique}
use Rattle.trellis.specs.Trellis.{Trellis, Path, Node, node, top, allowed, ends, end_node, same, paths, paths_to, reachable}
use Rattle.trellis.specs.Lawful.{Allowed, start, step, Ends}

-- ---- which inputs are allowed

-- to know the number of inputs from where the level lies
pub allowed_message : (t : Trellis) (l : ℕ) → l < t.span → allowed t l ≡ t.inputs
unfolding allowed
allowed_message t l h = rw (lt-ltb l t.span h)

-- in the tail one
pub allowed_tail : (t : Trellis) (l : ℕ) → t.span ≤ l → l < top t → allowed t l ≡ 1
unfolding allowed
allowed_tail t l h k = rw (le-ltb l t.span h, lt-ltb l (top t) k)

-- at the top none
pub allowed_none : (t : Trellis) (l : ℕ) → top t ≤ l → allowed t l ≡ 0
unfolding allowed
allowed_none t l h = rw (le-ltb l t.span (omega arith), le-ltb l (top t) h)

-- a branch leaves from below the top
pub allowed_top : (t : Trellis) (l b : ℕ) → b < allowed t l → l < top t
allowed_top t l b h = go (test (ltb l (top t)))
  where
    go : Dec (T (ltb l (top t))) → l < top t
    go (yes k) = ltb→lt l (top t) k
    go (no k) = let e : allowed t l ≡ 0 = allowed_none t l (ltb-false l (top t) (false_out (ltb l (top t)) k)) in absurd (omega arith)

-- ---- paths

-- a path ends at its own node
pub ends_here : {t : Trellis} {p : Path} → Allowed t p → Ends t (end_node t p) p
ends_here al = record { allowed = al; level = refl; state = refl }

-- no path is longer than to the top
pub path_short : {t : Trellis} {p : Path} → Allowed t p → length p ≤ top t
path_short start = omega arith
path_short {t} (step {b = b} {p = p} h al) = allowed_top t (length p) b h

-- the listed paths of a level are the allowed ones, whatever their states
pub paths_in : {t : Trellis} {x : Node} {p : Path} → Ends t x p → p ∈ paths t x.level
unfolding paths
paths_in {t} {x} {p} h = subst (λ (l : ℕ). p ∈ paths t l) h.level (go h.allowed)
  where
    go : {q : Path} → Allowed t q → q ∈ paths t (length q)
    go start = here refl
    go (step {p = q} k al) = grown_in (allowed t (length q)) k (go al)

-- and back
pub paths_out : (t : Trellis) (k : ℕ) {p : Path} → p ∈ paths t k → Ends t (node k (ends t p)) p
unfolding paths
paths_out t zero {p} m = let e : p ≡ [] = singleton_out m in record { allowed = subst (Allowed t) (sym e) start; level = ap length e; state = refl }
paths_out t (suc k) {p} m =
    let r = grown_out (allowed t k) (paths t k) m in
    let h : Ends t (node k (ends t r.rest)) r.rest = paths_out t k r.member in
    record {
      allowed = subst (Allowed t) (sym r.equal) (step (rw h.level r.fits) h.allowed);
      level = ap length r.equal ∙ ap suc h.level;
      state = refl;
    }

-- no path is listed twice
pub paths_unique : (t : Trellis) (k : ℕ) → Unique (paths t k)
unfolding paths
paths_unique t zero = (λ m. nil_out m, tt)
paths_unique t (suc k) = grown_unique (allowed t k) (paths t k) (paths_unique t k)

-- the listed paths to a node are the allowed ones that end there
pub paths_to_in : {t : Trellis} {x : Node} {p : Path} → Ends t x p → p ∈ paths_to t x
unfolding paths_to
paths_to_in {t} {x} h = keep_in (λ p. eqb (ends t p) x.state) (paths_in h) (rw h.state (eqb_refl x.state))

-- and back
pub paths_to_out : (t : Trellis) (x : Node) {p : Path} → p ∈ paths_to t x → Ends t x p
unfolding paths_to
paths_to_out t x {p} m =
    let r = keep_out (λ p. eqb (ends t p) x.state) (paths t x.level) m in
    let h = paths_out t x.level r.member in
    record { allowed = h.allowed; level = h.level; state = eqb→eq (ends t p) x.state r.passes }

-- so they can be counted
pub paths_to_unique : (t : Trellis) (x : Node) → Unique (paths_to t x)
unfolding paths_to
paths_to_unique t x = keep_unique (λ p. eqb (ends t p) x.state) (paths t x.level) (paths_unique t x.level)

-- ---- nodes

-- nodes are equal by level and state
pub node_path : {x y : Node} → x.level ≡ y.level → x.state ≡ y.state → x ≡ y
node_path p q = λ i. node (p i) (q i)

-- the test of nodes is equality
pub same_equality : Equality same
same_equality = record {
  sound = (λ x y h. sound x y h);
  complete = (λ x. and_in (eqb x.level x.level) (eqb x.state x.state) (eqb_refl x.level) (eqb_refl x.state));
}
  where
    sound : (x y : Node) → T (same x y) → x ≡ y
    sound x y h =
        let r = and_out (eqb x.level y.level) (eqb x.state y.state) h in
        node_path (eqb→eq x.level y.level r.0) (eqb→eq x.state y.state r.1)

-- some path ends at x
pub record Reached (t : Trellis) (x : Node) : Type 0 where
  pub path : Path
  pub there : Ends t x path

-- the reachable nodes are those where a path ends
pub reachable_in : {t : Trellis} {x : Node} {p : Path} → Ends t x p → x ∈ reachable t
unfolding reachable
reachable_in {t} {x} {p} h =
    distinct_in same same_equality (map (end_node t) (flat_map (paths t) (below (suc (top t))))) x
    (member_cast (node_path (sym h.level) (sym h.state))
    (map_in (end_node t) (flat_map_in (paths t) (below_in (suc (top t)) (omega (arith, path_short h.allowed))) (paths_in (ends_here h.allowed)))))

-- and back
pub reachable_out : (t : Trellis) {x : Node} → x ∈ reachable t → Reached t x
unfolding reachable
reachable_out t {x} m =
    let every = flat_map (paths t) (below (suc (top t))) in
    let r = map_out (end_node t) every (distinct_out same same_equality (map (end_node t) every) x m) in
    let s = flat_map_out (paths t) (below (suc (top t))) r.member in
    let h = paths_out t s.source s.inner in
    record { path = r.source; there = subst (λ (y : Node). Ends t y r.source) (sym r.equal) (ends_here h.allowed) }

-- so each is ranked once
pub reachable_unique : (t : Trellis) → Unique (reachable t)
unfolding reachable
reachable_unique t = distinct_unique same same_equality (map (end_node t) (flat_map (paths t) (below (suc (top t)))))
