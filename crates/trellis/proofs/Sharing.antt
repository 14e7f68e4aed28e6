-- Law 5: how many least paths a node has is the sum, over the branches that bring it its cost, of how many their sources have; and
-- stopped at a cap it is the sum stopped at that cap. The cap is a parameter: 2 tells a tie, a larger one counts further.
-- Assumes nothing.
use mathlib.Core.Path.{◌≡◌, refl, sym, ap, ap₂, ◌∙◌, subst}
use mathlib.Core.Logic.{◌⊎◌, inl, inr}
use mathlib.Core.List.{List, [], ◌∷◌, ◌++◌, map, flat_map}
use Prim.Native.Nat.{ℕ, zero, suc, ◌+◌, ◌<◌, min}
use native.Mathlib.Omega.{arith}
use lib.Dec.{eqb}
use lib.ListN.{length, length-append, length-map}
use Rattle.lists.specs.Lists.{keep}
use Rattle.lists.proofs.Membership.{◌∈◌, here, nil_out, append_out, singleton_out, append_left, append_right}
use Rattle.lists.proofs.Membership.{map_in, map_out, flat_map_in, flat_map_out, FlatMapped}
use Rattle.lists.proofs.Unique.{Unique, append_unique, map_unique, flat_map_unique}
use Rattle.trellis.specs.Trellis.{Trellis, Path, Node, origin, allowed, ends, along, metric, end_node, paths_to, cost}
use Rattle.trellis.specs.Verdict.{Entry, entry, onto}
use Rattle.trellis.specs.Lawful.{start, Ends}
use Rattle.trellis.proofs.Paths.{ends_here}
use Rattle.trellis.proofs.Cost.{Cost, cost_is, cost_unique, cost_origin, LeastPaths, least_paths, least_paths_length}
use Rattle.trellis.proofs.Recurrence.{extend, metric_extend, ends_rest, ends_last, cost_enters, reached_origin}
use Rattle.trellis.proofs.Order.{entry_path, mark}
use Rattle.trellis.proofs.Ranked.{Priced}

-- ---- sums

-- the sum of a list
unfoldable pub total : List ℕ → ℕ
total [] = 0
total (n ∷ ns) = n + total ns

-- the same, stopped at a cap after each addition
unfoldable pub stopped : ℕ → List ℕ → ℕ
stopped cap [] = 0
stopped cap (n ∷ ns) = min cap (n + stopped cap ns)

-- stopping on the way, and each number before, is stopping at the end
pub stopped_total : {A : Type 0} (cap : ℕ) (f : A → ℕ) (l : List A) → stopped cap (map (λ x. min cap (f x)) l) ≡ min cap (total (map f l))
unfolding total stopped
stopped_total cap f [] = omega arith
stopped_total cap f (x ∷ l) = let ih = stopped_total cap f l in omega arith

-- to count lists put together
length_flat_map : {A B : Type 0} (f : A → List B) (l : List A) → length (flat_map f l) ≡ total (map (λ x. length (f x)) l)
unfolding flat_map total
length_flat_map f [] = refl
length_flat_map f (x ∷ l) = let ih = length_flat_map f l in omega (arith, length-append (f x) (flat_map f l))

-- ---- branches

-- a branch leaves an entry with an input
pub record Branch : Type 0 where
  pub source : Entry
  pub input : ℕ

-- a branch, short
abbrev pub branch : Entry → ℕ → Branch
branch e b = record { source = e; input = b }

-- where a branch leads, with the cost that it brings
abbrev pub lands : Trellis → Branch → Entry
lands t f = onto t f.source f.input

-- the branch is allowed
abbrev pub Fits : Trellis → Branch → Type 0
Fits t f = f.input < allowed t f.source.node.level

-- fs lists, each once, the branches that bring an entry its cost, each from a node at its own cost
pub record LeastBranches (t : Trellis) (e : Entry) (fs : List Branch) : Type 0 where
  pub once : Unique fs
  pub known : (f : Branch) → f ∈ fs → Priced t f.source
  pub fits : (f : Branch) → f ∈ fs → Fits t f
  pub lands_there : (f : Branch) → f ∈ fs → lands t f ≡ e
  pub full : (f : Branch) → Priced t f.source → Fits t f → lands t f ≡ e → f ∈ fs

-- ---- the law

-- the paths to an entry's node that have its cost
abbrev pub sharing : Trellis → Entry → List Path
sharing t e = keep (λ p. eqb (metric t p) e.cost) (paths_to t e.node)

-- how many there are
abbrev pub shared : Trellis → Entry → ℕ
shared t e = length (sharing t e)

-- the path that no branch brings: at level 0 the empty one
roots : ℕ → List Path
roots zero = [] ∷ []
roots (suc l) = []

-- how many paths no branch brings: at level 0 one
unfoldable pub starting : ℕ → ℕ
starting zero = 1
starting (suc l) = 0

-- it is there at level 0 alone, once
length_roots : (l : ℕ) → length (roots l) ≡ starting l
unfolding roots starting
length_roots zero = refl
length_roots (suc l) = refl

roots_in : (l : ℕ) → l ≡ 0 → [] ∈ roots l
unfolding roots
roots_in zero e = here refl
roots_in (suc l) e = absurd (omega arith)

roots_out : (l : ℕ) (p : Path) → p ∈ roots l → (l ≡ 0) × (p ≡ [])
unfolding roots
roots_out zero p m = (refl, singleton_out m)
roots_out (suc l) p m = absurd (nil_out m)

roots_unique : (l : ℕ) → Unique (roots l)
unfolding roots
roots_unique zero = ((λ m. nil_out m), tt)
roots_unique (suc l) = tt

-- the least paths of a branch's source, each gone on by the branch
abbrev gone : Trellis → Branch → List Path
gone t f = map (λ p. f.input ∷ p) (sharing t f.source)

-- where such a path comes from
record Gone (t : Trellis) (f : Branch) (p : Path) : Type 0 where
  rest : Path
  there : Ends t f.source.node rest
  paid : metric t rest ≡ f.source.cost
  equal : p ≡ f.input ∷ rest

-- to take it apart
gone_out : (t : Trellis) (f : Branch) {p : Path} → p ∈ gone t f → Gone t f p
gone_out t f m =
    let r = map_out (λ p. f.input ∷ p) (sharing t f.source) m in
    let l = least_paths t f.source.node f.source.cost in
    record { rest = r.source; there = l.there r.source r.member; paid = l.paid r.source r.member; equal = r.equal }

-- a path tells the branch that it came by
gone_apart : (t : Trellis) (f g : Branch) (p : Path) → p ∈ gone t f → p ∈ gone t g → f ≡ g
gone_apart t f g p m n =
    let r = gone_out t f m in
    let s = gone_out t g n in
    let e : r.rest ≡ s.rest = cc (r.equal, s.equal) in
    let b : f.input ≡ g.input = cc (r.equal, s.equal) in
    let c : f.source.cost ≡ g.source.cost = cc (r.paid, s.paid, e) in
    let l : f.source.node.level ≡ g.source.node.level = cc (r.there.level, s.there.level, e) in
    let q : f.source.node.state ≡ g.source.node.state = cc (r.there.state, s.there.state, e) in
    λ i. branch (entry (c i) (l i) (q i)) (b i)

module _ {t : Trellis} {e : Entry} {fs : List Branch} (known : Priced t e) (least : LeastBranches t e fs) where
  -- at level 0 there is the origin alone, and it costs nothing
  root : e.node.level ≡ 0 → e ≡ entry 0 0 0
  root l =
      let x : e.node ≡ origin = reached_origin l (record { path = known.path; there = known.there }) in
      entry_path (cost_unique (subst (λ (y : Node). Cost t y e.cost) x known) (cost_origin t)) x

  -- the root and the paths gone on are all least paths
  all_least : LeastPaths t e.node e.cost (roots e.node.level ++ flat_map (gone t) fs)
  unfolding ends along
  all_least = record {
    once = append_unique (roots e.node.level) (flat_map (gone t) fs) (roots_unique e.node.level)
        (flat_map_unique (gone t) fs gone_unique (gone_apart t) least.once)
        (λ p m n. apart p (roots_out e.node.level p m).1 (flat_map_out (gone t) fs n));
    there = (λ p m. there' p (append_out (roots e.node.level) m));
    paid = (λ p m. paid' p (append_out (roots e.node.level) m));
    full = (λ p h c. full' p h c);
  }
    where
      gone_unique : (f : Branch) → Unique (gone t f)
      gone_unique f =
          map_unique (λ p. f.input ∷ p) (sharing t f.source) (λ p q m n e. cc (e)) (least_paths t f.source.node f.source.cost).once

      apart : (p : Path) → p ≡ [] → FlatMapped (gone t) fs p → ⊥
      apart p q r =
          let n : length p ≡ 0 = ap length q in
          let k : length p ≡ suc (length (gone_out t r.source r.inner).rest) = ap length (gone_out t r.source r.inner).equal in
          omega arith

      there' : (p : Path) → (p ∈ roots e.node.level) ⊎ (p ∈ flat_map (gone t) fs) → Ends t e.node p
      there' p (inl m) =
          let r = roots_out e.node.level p m in
          subst (Ends t e.node) (sym r.1) (subst (λ (u : Entry). Ends t u.node []) (sym (root r.0)) (ends_here start))
      there' p (inr m) =
          let r = flat_map_out (gone t) fs m in
          let g = gone_out t r.source r.inner in
          let leads : e.node ≡ (lands t r.source).node = ap (λ (u : Entry). u.node) (sym (least.lands_there r.source r.member)) in
          subst (Ends t e.node) (sym g.equal) (extend g.there (record { fits = least.fits r.source r.member; leads = leads }))

      paid' : (p : Path) → (p ∈ roots e.node.level) ⊎ (p ∈ flat_map (gone t) fs) → metric t p ≡ e.cost
      paid' p (inl m) = let r = roots_out e.node.level p m in ap (metric t) r.1 ∙ sym (ap (λ (u : Entry). u.cost) (root r.0))
      paid' p (inr m) =
          let r = flat_map_out (gone t) fs m in
          let g = gone_out t r.source r.inner in
          let c : (lands t r.source).cost ≡ e.cost = ap (λ (u : Entry). u.cost) (least.lands_there r.source r.member) in
          ap (metric t) g.equal ∙ metric_extend r.source.input g.there ∙ omega (arith, g.paid)

      full' : (p : Path) → Ends t e.node p → metric t p ≡ e.cost → p ∈ (roots e.node.level ++ flat_map (gone t) fs)
      full' [] h c = append_left (flat_map (gone t) fs) (roots_in e.node.level (sym h.level))
      full' (b ∷ q) h c =
          let k : Cost t (end_node t q) (cost t (end_node t q)) = cost_is (ends_rest h) in
          let own : cost t (end_node t q) ≡ metric t q = omega (arith, c, k.least q (ends_rest h), cost_enters known k (ends_last h)) in
          let f : Branch = branch (mark t q) b in
          let m : f ∈ fs = least.full f (subst (λ (u : ℕ). Cost t (end_node t q) u) own k) (ends_last h).fits (entry_path c (sym (ends_last h).leads)) in
          append_right (roots e.node.level)
          (flat_map_in (gone t) m (map_in (λ p. b ∷ p) ((least_paths t (end_node t q) (metric t q)).full q (ends_rest h) refl)))

  -- as many least paths as the sources of its least branches have together
  pub sharing_total : shared t e ≡ starting e.node.level + total (map (λ f. shared t f.source) fs)
  sharing_total =
      least_paths_length (least_paths t e.node e.cost) all_least
      ∙ length-append (roots e.node.level) (flat_map (gone t) fs)
      ∙ ap₂ ◌+◌ (length_roots e.node.level) (length_flat_map (gone t) fs ∙ ap total (map_same fs))
    where
      map_same : (l : List Branch) → map (λ f. length (gone t f)) l ≡ map (λ f. shared t f.source) l
      map_same [] = refl
      map_same (f ∷ l) = ap₂ (λ (n : ℕ) (ns : List ℕ). n ∷ ns) (length-map (sharing t f.source) (λ p. f.input ∷ p)) (map_same l)

  -- and the same stopped at a cap, each number and the sum
  pub sharing_stopped : (cap : ℕ)
      → min cap (shared t e) ≡ min cap (starting e.node.level + stopped cap (map (λ f. min cap (shared t f.source)) fs))
  sharing_stopped cap = omega (arith, sharing_total, stopped_total cap (λ f. shared t f.source) fs)
