-- For law 7: what the computed conditions of a sheet say, for programs and laws to cite: each law NAME-test gives both ways, `out` from
-- the test and `into` it. First being listed, then the parts of a path one by one, then A to D and `carries`.
-- Not here: that a sheet which carries its claim is right (SheetSound), that an honest sheet carries it (SheetComplete).
-- Assumes nothing.
use mathlib.Core.Path.{◌≡◌, refl, sym, ap}
use mathlib.Core.List.{List, [], ◌∷◌}
use mathlib.Core.Bool.{Bool, ◌&&◌}
use Prim.Native.Nat.{ℕ, ◌≤◌, ◌<◌}
use native.Mathlib.Omega.{arith}
use Rattle.lists.specs.Lists.{below}
use Rattle.lists.proofs.Membership.{◌∈◌, here, further, nil_out, member_cast, Every, every_cons, below_in, below_out}
use Rattle.lists.proofs.Decides.{Decides, said, together, either, whenever, each, some, equal, less, at_most}
use Rattle.trellis.specs.Trellis.{Trellis, Path, Node, same, allowed, ends, along, metric, end_node}
use Rattle.trellis.specs.Verdict.{Entry, entry, onto}
use Rattle.trellis.specs.Sheet.{listed_as, listed_within, all_branches, condition_a, condition_b, condition_c, condition_d, carries}
use Rattle.trellis.proofs.Paths.{node_path}
use Rattle.trellis.proofs.Order.{entry_path, mark}
use Rattle.trellis.proofs.Parts.{parts}

-- ---- being listed

-- for every test that looks for a node
same_test : (x y : Node) → Decides (same x y) (x ≡ y)
same_test x y =
    said (together (equal x.level y.level) (equal x.state y.state))
    (λ h. node_path h.0 h.1) (λ e. (ap (λ (z : Node). z.level) e, ap (λ (z : Node). z.state) e))

-- for A and C: listed with just this cost
pub listed_as_test : (sheet : List Entry) (e : Entry) → Decides (listed_as sheet e.node e.cost) (e ∈ sheet)
unfolding listed_as
listed_as_test sheet e =
    said (some (λ f. together (same_test f.node e.node) (equal f.cost e.cost)) sheet)
    (λ f. member_cast (entry_path (sym f.2.1) (sym f.2.0)) f.1) (λ m. (e, m, (refl, refl)))

-- for B: listed with a cost of at most this
pub record Listed (sheet : List Entry) (x : Node) (c : ℕ) : Type 0 where
  pub cost : ℕ
  pub here : record { cost = cost; node = x } ∈ sheet
  pub small : cost ≤ c

-- so its test says
pub listed_within_test : (sheet : List Entry) (x : Node) (c : ℕ) → Decides (listed_within sheet x c) (Listed sheet x c)
unfolding listed_within
listed_within_test sheet x c =
    said (some (λ f. together (same_test f.node x) (at_most f.cost c)) sheet)
    (λ f. record { cost = f.0.cost; here = member_cast (entry_path refl (sym f.2.0)) f.1; small = f.2.1 })
    (λ l. (record { cost = l.cost; node = x }, l.here, (refl, l.small)))

-- ---- the parts of a path

-- for C and D, which go through the parts one by one
first_part : (Q : Path → Type 0) {test : Bool} → Decides test (Q []) → Decides test (Every Q (parts []))
first_part Q d = said d (λ h. every_cons Q h (λ p m. absurd (nil_out m))) (λ h. h [] (here refl))

-- one part more
more_parts : (Q : Path → Type 0) {a : ℕ} {p : Path} {test tests : Bool} → Decides test (Q (a ∷ p)) → Decides tests (Every Q (parts p))
    → Decides (test && tests) (Every Q (parts (a ∷ p)))
more_parts Q {a} {p} d e = said (together d e) (λ h. every_cons Q h.0 h.1) (λ h. (h (a ∷ p) (here refl), λ q m. h q (further m)))

-- ---- the conditions

-- every allowed branch from every entry has the property
abbrev pub AllBranches : Trellis → List Entry → (Entry → ℕ → Type 0) → Type 0
AllBranches t sheet P = (e : Entry) → e ∈ sheet → (b : ℕ) → b < allowed t e.node.level → P e b

-- B: a branch within the metric leads to a listed node
abbrev pub Onward : Trellis → ℕ → List Entry → Entry → ℕ → Type 0
Onward t m sheet e b = (onto t e b).cost ≤ m → Listed sheet (onto t e b).node (onto t e b).cost

-- D: a branch that enters the end of a path, and is not its last branch, costs more than the path
abbrev pub Dearer : Trellis → ℕ → Path → Entry → ℕ → Type 0
Dearer t a p e b = (onto t e b).node ≡ end_node t (a ∷ p) → ¬ ((e.node.state ≡ ends t p) × (b ≡ a)) → metric t (a ∷ p) < (onto t e b).cost

-- D, at one node of the path
abbrev pub Clear : Trellis → List Entry → Path → Type 0
Clear t sheet [] = Unit {0}
Clear t sheet (a ∷ p) = AllBranches t sheet (Dearer t a p)

-- a sheet carries its claim: 'It accepts exactly if all of these hold'
pub record Carries (t : Trellis) (m : ℕ) (sheet : List Entry) (own : Path) : Type 0 where
  -- A
  pub begun : entry 0 0 0 ∈ sheet
  -- B
  pub onward : AllBranches t sheet (Onward t m sheet)
  -- C
  pub listed : Every (λ p. mark t p ∈ sheet) (parts own)
  pub paid : metric t own ≡ m
  -- D
  pub clear : Every (Clear t sheet) (parts own)

-- for B and D, which go through the branches one by one
pub branches_test : (t : Trellis) (sheet : List Entry) {p : Entry → ℕ → Bool} {P : Entry → ℕ → Type 0}
    → ((e : Entry) (b : ℕ) → Decides (p e b) (P e b)) → Decides (all_branches t sheet p) (AllBranches t sheet P)
branches_test t sheet d =
    each (λ e. said (each (d e) (below (allowed t e.node.level)))
    (λ h b l. h b (below_in (allowed t e.node.level) l)) (λ h b m. h b (below_out (allowed t e.node.level) m))) sheet

-- A: the origin is in the sheet with cost 0
pub condition_a_test : (sheet : List Entry) → Decides (condition_a sheet) (entry 0 0 0 ∈ sheet)
unfolding condition_a
condition_a_test sheet = listed_as_test sheet (entry 0 0 0)

-- B: the sheet goes on wherever the metric allows
pub condition_b_test : (t : Trellis) (m : ℕ) (sheet : List Entry) → Decides (condition_b t m sheet) (AllBranches t sheet (Onward t m sheet))
unfolding condition_b
condition_b_test t m sheet =
    branches_test t sheet (λ e b. said (either (less m (onto t e b).cost) (listed_within_test sheet (onto t e b).node (onto t e b).cost))
    (λ h l. h (λ k. omega arith)) (λ h n. h (omega arith)))

-- C: the message's own path is in the sheet, with its metrics
pub condition_c_test : (t : Trellis) (sheet : List Entry) (own : Path) → Decides (condition_c t sheet own) (Every (λ p. mark t p ∈ sheet) (parts own))
unfolding condition_c ends along
condition_c_test t sheet [] = first_part (λ p. mark t p ∈ sheet) (listed_as_test sheet (entry 0 0 0))
condition_c_test t sheet (a ∷ p) = more_parts (λ p. mark t p ∈ sheet) (listed_as_test sheet (mark t (a ∷ p))) (condition_c_test t sheet p)

-- D: no entry leads into that path as cheaply
pub condition_d_test : (t : Trellis) (sheet : List Entry) (own : Path) → Decides (condition_d t sheet own) (Every (Clear t sheet) (parts own))
unfolding condition_d
condition_d_test t sheet [] = first_part (Clear t sheet) (record { out = (λ h. tt); into = (λ h. tt) })
condition_d_test t sheet (a ∷ p) =
    more_parts (Clear t sheet)
    (branches_test t sheet (λ e b.
    whenever (same_test (onto t e b).node (end_node t (a ∷ p))) (together (equal e.node.state (ends t p)) (equal b a))
    (less (metric t (a ∷ p)) (onto t e b).cost)))
    (condition_d_test t sheet p)

-- for the check: what its answer yes says, and what it must find for it
pub carries_test : (t : Trellis) (m : ℕ) (sheet : List Entry) (own : Path) → Decides (carries t m sheet own) (Carries t m sheet own)
unfolding carries
carries_test t m sheet own =
    said
    (together (together (together (condition_a_test sheet) (condition_b_test t m sheet)) (together (condition_c_test t sheet own) (equal (metric t own) m)))
    (condition_d_test t sheet own))
    (λ h. record { begun = h.0.0.0; onward = h.0.0.1; listed = h.0.1.0; paid = h.0.1.1; clear = h.1 })
    (λ k. (((k.begun, k.onward), (k.listed, k.paid)), k.clear))
