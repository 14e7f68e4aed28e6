-- Law 2, node order: it is a strict total order, of nodes by level, then state, of entries by cost first. What a branch brings stands later
-- than the entry that it leaves. Assumes nothing.
use mathlib.Core.Path.{◌≡◌}
use mathlib.Core.Logic.{◌⊎◌, inl, inr}
use mathlib.Core.Bool.{Bool}
use Prim.Native.Nat.{ℕ, ◌<◌}
use native.Mathlib.Omega.{arith}
use lib.Dec.{T, ltb, ltb→lt, lt→ltb}
use Rattle.lists.proofs.Sorted.{Order}
use Rattle.lists.proofs.Lexicographic.{compared, lexicographic_lt, lexicographic_eq, lexicographic_out, lexicographic_order}
use Rattle.trellis.specs.Trellis.{Trellis, Path, Node, metric, end_node}
use Rattle.trellis.specs.Verdict.{Entry, earlier, before, onto}
use Rattle.trellis.proofs.Paths.{node_path}

-- ---- level, then state

-- `earlier` is lexicographic by these two
abbrev level_of : Node → ℕ
level_of x = x.level

abbrev by_state : Node → Node → Bool
by_state x y = ltb x.state y.state

-- `earlier` spelled out, to split on it or to give its reason
abbrev pub Earlier : Node → Node → Type 0
Earlier x y = (x.level < y.level) ⊎ ((x.level ≡ y.level) × (x.state < y.state))

-- to give its reason
pub earlier_in : (x y : Node) → Earlier x y → T (earlier x y)
earlier_in x y (inl h) = lexicographic_lt level_of by_state x y h
earlier_in x y (inr h) = lexicographic_eq level_of by_state x y h.0 (lt→ltb x.state y.state h.1)

-- to split on it
pub earlier_out : (x y : Node) → T (earlier x y) → Earlier x y
earlier_out x y h = go (lexicographic_out level_of by_state x y h)
  where
    go : (x.level < y.level) ⊎ ((x.level ≡ y.level) × T (ltb x.state y.state)) → Earlier x y
    go (inl k) = inl k
    go (inr k) = inr (k.0, ltb→lt x.state y.state k.1)

-- what sorting the honest sheet needs
pub earlier_order : Order earlier
earlier_order = lexicographic_order level_of by_state
    (λ x h. let k : x.state < x.state = ltb→lt x.state x.state h in omega arith)
    (λ x y z h k. lt→ltb x.state z.state (omega (arith, ltb→lt x.state y.state h, ltb→lt y.state z.state k)))
    (λ x y e. go x y e (compared x.state y.state))
  where
    go : (x y : Node) → x.level ≡ y.level → (x.state < y.state) ⊎ ((x.state ≡ y.state) ⊎ (y.state < x.state))
        → T (ltb x.state y.state) ⊎ ((x ≡ y) ⊎ T (ltb y.state x.state))
    go x y e (inl h) = inl (lt→ltb x.state y.state h)
    go x y e (inr (inl q)) = inr (inl (node_path e q))
    go x y e (inr (inr h)) = inr (inr (lt→ltb y.state x.state h))

-- ---- cost, then level, then state

-- `before` is lexicographic by these two
abbrev cost_of : Entry → ℕ
cost_of e = e.cost

abbrev by_node : Entry → Entry → Bool
by_node x y = earlier x.node y.node

-- `before` spelled out, to split on it or to give its reason
abbrev pub Before : Entry → Entry → Type 0
Before x y = (x.cost < y.cost) ⊎ ((x.cost ≡ y.cost) × Earlier x.node y.node)

-- to give its reason
pub before_in : (x y : Entry) → Before x y → T (before x y)
before_in x y (inl h) = lexicographic_lt cost_of by_node x y h
before_in x y (inr h) = lexicographic_eq cost_of by_node x y h.0 (earlier_in x.node y.node h.1)

-- to split on it
pub before_out : (x y : Entry) → T (before x y) → Before x y
before_out x y h = go (lexicographic_out cost_of by_node x y h)
  where
    go : (x.cost < y.cost) ⊎ ((x.cost ≡ y.cost) × T (earlier x.node y.node)) → Before x y
    go (inl k) = inl k
    go (inr k) = inr (k.0, earlier_out x.node y.node k.1)

-- entries are equal by cost and node
pub entry_path : {x y : Entry} → x.cost ≡ y.cost → x.node ≡ y.node → x ≡ y
entry_path p q = λ i. record { cost = p i; node = q i }

-- what ranking needs
pub before_order : Order before
before_order = lexicographic_order cost_of by_node
    (λ x h. earlier_order.irrefl x.node h)
    (λ x y z h k. earlier_order.trans x.node y.node z.node h k)
    (λ x y e. go x y e (earlier_order.total x.node y.node))
  where
    go : (x y : Entry) → x.cost ≡ y.cost → T (earlier x.node y.node) ⊎ ((x.node ≡ y.node) ⊎ T (earlier y.node x.node))
        → T (earlier x.node y.node) ⊎ ((x ≡ y) ⊎ T (earlier y.node x.node))
    go x y e (inl h) = inl h
    go x y e (inr (inl q)) = inr (inl (entry_path e q))
    go x y e (inr (inr h)) = inr (inr h)

-- where a path ends, with its metric
abbrev pub mark : Trellis → Path → Entry
mark t p = record { cost = metric t p; node = end_node t p }

-- metrics do not fall and the level rises, so no later step undercuts an expanded node
pub onto_later : (t : Trellis) (e : Entry) (b : ℕ) → T (before e (onto t e b))
onto_later t e b = go (compared e.cost (onto t e b).cost)
  where
    go : (e.cost < (onto t e b).cost) ⊎ ((e.cost ≡ (onto t e b).cost) ⊎ ((onto t e b).cost < e.cost)) → T (before e (onto t e b))
    go (inl h) = before_in e (onto t e b) (inl h)
    go (inr (inl q)) = before_in e (onto t e b) (inr (q, inl (omega arith)))
    go (inr (inr h)) = absurd (omega arith)
