-- Law 3, the step: Dijkstra's argument with the strict node order. With the first j ranked nodes closed and every open node at the
-- least cost that a closed one offers it, the open node that is first in order is ranked node j + 1, and its cost is right.
-- How open nodes are kept is left open: they are any predicate on entries. Assumes nothing.
use mathlib.Core.Path.{◌≡◌, refl, sym, ap, ◌∙◌, subst}
use mathlib.Core.Logic.{◌⊎◌, inl, inr}
use mathlib.Core.List.{List, [], ◌∷◌, ◌++◌}
use Prim.Native.Nat.{ℕ, zero, suc, ◌≤◌, ◌<◌}
use native.Mathlib.Omega.{arith}
use lib.Dec.{T}
use lib.ListN.{take}
use Rattle.lists.proofs.Membership.{◌∈◌, here, further, nil_out, member_cast, eq_or_lt}
use Rattle.lists.proofs.Sorted.{Sorted}
use Rattle.trellis.specs.Trellis.{Trellis, Path, Node, origin, allowed, ends, along, metric, end_node, cost}
use Rattle.trellis.specs.Verdict.{Entry, entry, priced, before, ranked, onto}
use Rattle.trellis.specs.Lawful.{Allowed, start, step}
use Rattle.trellis.specs.Safe.{Attains, Attained}
use Rattle.trellis.proofs.Paths.{ends_here, node_path}
use Rattle.trellis.proofs.Cost.{Cost, cost_is, cost_computed}
use Rattle.trellis.proofs.Recurrence.{extend, metric_extend}
use Rattle.trellis.proofs.Order.{Before, before_in, before_out, before_order, entry_path, mark, onto_later}
use Rattle.trellis.proofs.Ranked.{Priced, ranked_in, ranked_out, ranked_sorted}

-- ---- the order, with equality

-- not after
abbrev pub AtMost : Entry → Entry → Type 0
AtMost x y = (x ≡ y) ⊎ T (before x y)

-- to go on from it with the strict order
pub at_most_before : (x y z : Entry) → AtMost x y → T (before y z) → T (before x z)
at_most_before x y z (inl e) h = subst (λ (u : Entry). T (before u z)) (sym e) h
at_most_before x y z (inr g) h = before_order.trans x y z g h

-- so it costs no more
at_most_cost : (x y : Entry) → AtMost x y → x.cost ≤ y.cost
at_most_cost x y (inl e) = let h : x.cost ≡ y.cost = ap (λ (u : Entry). u.cost) e in omega arith
at_most_cost x y (inr h) = go (before_out x y h)
  where
    go : Before x y → x.cost ≤ y.cost
    go (inl k) = omega arith
    go (inr k) = omega (arith, k.0)

-- a dearer way to the same node stands no earlier
at_most_dearer : (x y : Entry) (c : ℕ) → AtMost x y → y.cost ≤ c → AtMost x (record { cost = c; node = y.node })
at_most_dearer x y c h k = go (eq_or_lt y.cost c (omega arith))
  where
    go : (y.cost ≡ c) ⊎ (y.cost < c) → AtMost x (record { cost = c; node = y.node })
    go (inl e) = subst (λ (u : ℕ). AtMost x (record { cost = u; node = y.node })) e h
    go (inr l) = inr (at_most_before x y (record { cost = c; node = y.node }) h (before_in y (record { cost = c; node = y.node }) (inl l)))

-- the node that is in no front yet and before which nothing else is, is the next
sorted_next : (l : List Entry) (j : ℕ) (z : Entry) → Sorted before l → z ∈ l → (z ∈ take j l → ⊥)
    → ((e : Entry) → e ∈ l → (e ∈ take j l) ⊎ AtMost z e)
    → take (suc j) l ≡ take j l ++ (z ∷ [])
sorted_next [] j z s m new f = elim m [ ]
sorted_next (y ∷ l) zero z s m new f = ap (λ (u : Entry). u ∷ []) (go m (f y (here refl)))
  where
    go : z ∈ (y ∷ l) → (y ∈ []) ⊎ AtMost z y → y ≡ z
    go k (inl n) = absurd (nil_out n)
    go k (inr (inl e)) = sym e
    go (here e) (inr (inr h)) = sym e
    go (further k) (inr (inr h)) = absurd (before_order.irrefl y (before_order.trans y z y (s.0 z k) h))
sorted_next (y ∷ l) (suc j) z s m new f =
    ap (λ (k : List Entry). y ∷ k) (sorted_next l j z s.1 (rest m) (λ k. new (further k)) (λ e k. others e k (f e (further k))))
  where
    rest : z ∈ (y ∷ l) → z ∈ l
    rest (here e) = absurd (new (here e))
    rest (further k) = k

    others : (e : Entry) → e ∈ l → (e ∈ (y ∷ take j l)) ⊎ AtMost z e → (e ∈ take j l) ⊎ AtMost z e
    others e k (inl (here q)) = absurd (before_order.irrefl y (subst (λ (u : Entry). T (before y u)) q (s.0 e k)))
    others e k (inl (further n)) = inl n
    others e k (inr h) = inr h

-- ---- closed and open nodes

-- the node is among the first j ranked ones
abbrev pub Closed : Trellis → ℕ → Node → Type 0
Closed t j x = priced t x ∈ take j (ranked t)

-- an entry's node is open, at a cost of at most the entry's
pub record Offered (Open : Entry → Type 0) (e : Entry) : Type 0 where
  pub cost : ℕ
  pub here : Open (record { cost = cost; node = e.node })
  pub small : cost ≤ e.cost

-- the open nodes are what the first j ranked ones lead to, each at the least cost that they offer
pub record Frontier (t : Trellis) (j : ℕ) (Open : Entry → Type 0) : Type 0 where
  pub start : Closed t j origin ⊎ Offered Open (entry 0 0 0)
  pub front : (e : Entry) (b : ℕ) → e ∈ take j (ranked t) → b < allowed t e.node.level → Closed t j (onto t e b).node ⊎ Offered Open (onto t e b)
  pub reached : (e : Entry) → Open e → Attained t e
  pub apart : (e : Entry) → Open e → Closed t j e.node → ⊥

-- without an open node every path would end at a closed one
pub all_closed : {t : Trellis} {j : ℕ} {Open : Entry → Type 0} → Frontier t j Open → ((e : Entry) → Open e → ⊥)
    → {p : Path} → Allowed t p → Closed t j (end_node t p)
unfolding ends
all_closed {t} {j} {Open} F none start = go F.start
  where
    go : Closed t j origin ⊎ Offered Open (entry 0 0 0) → Closed t j origin
    go (inl k) = k
    go (inr o) = absurd (none (entry o.cost 0 0) o.here)
all_closed {t} {j} {Open} F none (step {b = b} {p = p} u al) = go (F.front (priced t (end_node t p)) b (all_closed F none al) u)
  where
    go : Closed t j (end_node t (b ∷ p)) ⊎ Offered Open (onto t (priced t (end_node t p)) b) → Closed t j (end_node t (b ∷ p))
    go (inl k) = k
    go (inr o) = absurd (none (record { cost = o.cost; node = end_node t (b ∷ p) }) o.here)

-- ---- a branch more

-- what an allowed branch brings is attained too
pub attains_onto : {t : Trellis} {e : Entry} {b : ℕ} {p : Path} → b < allowed t e.node.level → Attains t e p → Attains t (onto t e b) (b ∷ p)
attains_onto {b = b} u h = record { there = extend h.there (record { fits = u; leads = refl }); paid = metric_extend b h.there ∙ omega (arith, h.paid) }

-- ---- the step

module _ {t : Trellis} {j : ℕ} {Open : Entry → Type 0} (F : Frontier t j Open)
    (z : Entry) (z_open : Open z) (z_least : (e : Entry) → Open e → AtMost z e) where
  -- every path ends at a closed node, or not before z
  pub frontier : {p : Path} → Allowed t p → Closed t j (end_node t p) ⊎ AtMost z (mark t p)
  unfolding ends along
  frontier start = go F.start
    where
      go : Closed t j origin ⊎ Offered Open (entry 0 0 0) → Closed t j origin ⊎ AtMost z (entry 0 0 0)
      go (inl k) = inl k
      go (inr o) = inr (at_most_dearer z (entry o.cost 0 0) 0 (z_least (entry o.cost 0 0) o.here) o.small)
  frontier (step {b = b} {p = p} u al) = go (frontier al)
    where
      x : Node
      x = end_node t (b ∷ p)

      onward : cost t (end_node t p) ≤ metric t p → Closed t j x ⊎ Offered Open (onto t (priced t (end_node t p)) b)
          → Closed t j x ⊎ AtMost z (mark t (b ∷ p))
      onward h (inl k) = inl k
      onward h (inr o) =
          let e : Entry = record { cost = o.cost; node = x } in
          inr (at_most_dearer z e (metric t (b ∷ p)) (z_least e o.here) (omega (arith, o.small)))

      go : Closed t j (end_node t p) ⊎ AtMost z (mark t p) → Closed t j x ⊎ AtMost z (mark t (b ∷ p))
      go (inl k) = onward ((cost_is (ends_here al)).least p (ends_here al)) (F.front (priced t (end_node t p)) b k u)
      go (inr h) = inr (inr (at_most_before z (mark t p) (mark t (b ∷ p)) h (onto_later t (mark t p) b)))

  -- a reachable node is closed, or not before z
  pub ranked_after : (e : Entry) → Priced t e → (e ∈ take j (ranked t)) ⊎ AtMost z e
  ranked_after e c = go (frontier c.there.allowed)
    where
      end : end_node t c.path ≡ e.node
      end = node_path c.there.level c.there.state

      go : Closed t j (end_node t c.path) ⊎ AtMost z (mark t c.path) → (e ∈ take j (ranked t)) ⊎ AtMost z e
      go (inl k) = inl (member_cast (entry_path (cost_computed c ∙ ap (cost t) (sym end)) (sym end)) k)
      go (inr h) = inr (subst (λ (u : Entry). AtMost z u) (entry_path c.paid end) h)

  -- its cost is right
  pub next_exact : Priced t z
  next_exact = go (F.reached z z_open).attains
    where
      go : {p : Path} → Attains t z p → Priced t z
      go {p} r = subst (λ (c : ℕ). Cost t z.node c) (sym exact) (cost_is r.there)
        where
          low : (priced t z.node ∈ take j (ranked t)) ⊎ AtMost z (priced t z.node) → z.cost ≤ cost t z.node
          low (inl k) = absurd (F.apart z z_open k)
          low (inr h) = at_most_cost z (priced t z.node) h

          exact : z.cost ≡ cost t z.node
          exact = omega (arith, low (ranked_after (priced t z.node) (cost_is r.there)), (cost_is r.there).least p r.there, r.paid)

  -- THE STEP: it is the next of the ranked nodes
  pub next_ranked : take (suc j) (ranked t) ≡ take j (ranked t) ++ (z ∷ [])
  next_ranked =
      sorted_next (ranked t) j z (ranked_sorted t) (ranked_in next_exact)
      (λ m. F.apart z z_open (member_cast (entry_path (sym (cost_computed next_exact)) refl) m)) (λ e m. ranked_after e (ranked_out t m))
