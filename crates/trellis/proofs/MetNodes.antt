-- Law 4: D(j) counts the nodes met after j steps, however they are kept; it does not fall, and is above j; the terminal comes after
-- E steps. The greatest j that fits a room is in LastFit. Assumes nothing.
use mathlib.Core.Path.{◌≡◌, refl, sym, ap, ◌∙◌, subst}
use mathlib.Core.Logic.{◌⊎◌, inl, inr}
use mathlib.Core.List.{List, [], ◌∷◌, ◌++◌, map, flat_map, append_assoc}
use Prim.Native.Nat.{ℕ, zero, suc, ◌≤◌, ◌<◌}
use native.Mathlib.Omega.{arith}
use lib.Dec.{T}
use lib.ListN.{length, take, drop, length-map, length-take, length-append, take-append-drop}
use lib.Seq.{take-suc}
use Rattle.lists.specs.Lists.{keep, distinct}
use Rattle.lists.proofs.Membership.{◌∈◌, here, further, member_cast, append_right, Every, Within, take_out, take_more, keep_in}
use Rattle.lists.proofs.Membership.{Mapped, map_out, FlatMapped, flat_map_in, flat_map_out}
use Rattle.lists.proofs.Unique.{Unique, map_unique, length_within, same_length}
use Rattle.lists.proofs.Distinct.{distinct_in, distinct_out, distinct_unique}
use Rattle.lists.proofs.Sorted.{Sorted, take_sorted, take_or_after, take_before, sorted_unique, keep_before}
use Rattle.lists.proofs.Places.{place_out}
use Rattle.trellis.specs.Trellis.{Trellis, Node, same, origin, terminal, allowed, successors, cost}
use Rattle.trellis.specs.Verdict.{Entry, priced, before, ranked, steps, met, onto}
use Rattle.trellis.proofs.Paths.{Reached, same_equality}
use Rattle.trellis.proofs.Cost.{Cost, cost_is, cost_computed, cost_unique}
use Rattle.trellis.proofs.Recurrence.{successors_in, successors_out, reached_origin}
use Rattle.trellis.proofs.Order.{before_order, entry_path}
use Rattle.trellis.proofs.Ranked.{Priced, ranked_in, ranked_out, ranked_sorted, foregoer}
use Rattle.trellis.proofs.Step.{Closed}

-- ---- the nodes met

-- the nodes that D(j) counts, some of them more than once
abbrev pub met_nodes : Trellis → ℕ → List Node
met_nodes t j = origin ∷ flat_map (λ x. successors t x.node) (take j (ranked t))

-- the branch of one of the first j nodes by which a node is met
pub record Met (t : Trellis) (j : ℕ) (x : Node) : Type 0 where
  pub source : Entry
  pub input : ℕ
  pub member : source ∈ take j (ranked t)
  pub fits : input < allowed t source.node.level
  pub equal : x ≡ (onto t source input).node

-- to go from what was met to the list
pub met_in : (t : Trellis) (j : ℕ) (x : Node) → Met t j x → x ∈ met_nodes t j
met_in t j x m =
    further (flat_map_in (λ (e : Entry). successors t e.node) m.member (successors_in (record { fits = m.fits; leads = m.equal })))

-- and back
pub met_out : (t : Trellis) (j : ℕ) (x : Node) → x ∈ met_nodes t j → (x ≡ origin) ⊎ Met t j x
met_out t j x (here e) = inl e
met_out t j x (further m) = inr (go (flat_map_out (λ (e : Entry). successors t e.node) (take j (ranked t)) m))
  where
    go : FlatMapped (λ (e : Entry). successors t e.node) (take j (ranked t)) x → Met t j x
    go f =
        let s = successors_out t f.source.node f.inner in
        record { source = f.source; input = s.input; member = f.member; fits = s.enters.fits; equal = s.enters.leads }

module _ (t : Trellis) (j : ℕ) (l : List Node) (u : Unique l) (w : Within l (met_nodes t j)) where
  -- some of the nodes met: no more than D(j)
  pub length_some_met : length l ≤ met t j
  unfolding met
  length_some_met = length_within l (distinct same (met_nodes t j)) u (λ x m. distinct_in same same_equality (met_nodes t j) x (w x m))

  -- all of them: D(j)
  pub length_all_met : Within (met_nodes t j) l → length l ≡ met t j
  unfolding met
  length_all_met v =
      same_length l (distinct same (met_nodes t j)) u (distinct_unique same same_equality (met_nodes t j))
      (λ x m. distinct_in same same_equality (met_nodes t j) x (w x m)) (λ x m. v x (distinct_out same same_equality (met_nodes t j) x m))

-- D does not fall
pub met_mono : (t : Trellis) (j k : ℕ) → j ≤ k → met t j ≤ met t k
met_mono t j k h =
    unfold met in
    length_some_met t k (distinct same (met_nodes t j)) (distinct_unique same same_equality (met_nodes t j))
    (λ x m. go x (met_out t j x (distinct_out same same_equality (met_nodes t j) x m)))
  where
    go : (x : Node) → (x ≡ origin) ⊎ Met t j x → x ∈ met_nodes t k
    go x (inl e) = here e
    go x (inr m) =
        let later : m.source ∈ take k (ranked t) = take_more j k (ranked t) h m.source m.member in
        met_in t k x (record { source = m.source; input = m.input; member = later; fits = m.fits; equal = m.equal })

-- the origin is met at once
pub met_some : (t : Trellis) (j : ℕ) → 0 < met t j
met_some t j = length_some_met t j (origin ∷ []) ((λ m. elim m [ ]), tt) (λ x m. go x m)
  where
    go : (x : Node) → x ∈ (origin ∷ []) → x ∈ met_nodes t j
    go x (here e) = here e
    go x (further m) = elim m [ ]

-- ---- E

-- none of the first j ranked nodes comes twice, so they can be counted
pub front_unique : (t : Trellis) (j : ℕ) → Unique (take j (ranked t))
front_unique t j = sorted_unique before before_order (take j (ranked t)) (take_sorted before j (ranked t) (ranked_sorted t))

-- the (j + 1)-th ranked node stands in the list
pub next_inside : (t : Trellis) (j : ℕ) (z : Entry) → take (suc j) (ranked t) ≡ take j (ranked t) ++ (z ∷ []) → j < length (ranked t)
next_inside t j z e = omega (arith, ap length e, length-append (take j (ranked t)) (z ∷ []), length-take j (ranked t), length-take (suc j) (ranked t))

-- the terminal is ranked node j + 1: E is j
pub steps_at : (t : Trellis) (j : ℕ) (z : Entry) → take (suc j) (ranked t) ≡ take j (ranked t) ++ (z ∷ []) → z.node ≡ terminal t → steps t ≡ j
unfolding steps
steps_at t j z e n =
    ap (λ (u : Entry). length (keep (λ x. before x u) (ranked t))) (sym own)
    ∙ ap (λ (l : List Entry). length (keep (λ x. before x z) l)) whole
    ∙ ap length (keep_before before before_order (take j (ranked t)) (drop (suc j) (ranked t)) z (subst (Sorted before) whole (ranked_sorted t)))
    ∙ omega (arith, length-take j (ranked t), next_inside t j z e)
  where
    whole : ranked t ≡ take j (ranked t) ++ z ∷ drop (suc j) (ranked t)
    whole =
        sym (take-append-drop (suc j) (ranked t))
        ∙ ap (λ (l : List Entry). l ++ drop (suc j) (ranked t)) e
        ∙ append_assoc (take j (ranked t)) (z ∷ []) (drop (suc j) (ranked t))

    own : z ≡ priced t (terminal t)
    own =
        let c = ranked_out t (subst (λ (l : List Entry). z ∈ l) (sym whole) (append_right (take j (ranked t)) (here refl))) in
        entry_path (cost_computed c ∙ ap (cost t) n) n

-- the terminal is not among the first j: E is at least j
pub steps_past : (t : Trellis) (j : ℕ) → Reached t (terminal t) → j ≤ length (ranked t) → (Closed t j (terminal t) → ⊥) → j ≤ steps t
unfolding steps
steps_past t j h k away = go (take_or_after before j (ranked t) (ranked_sorted t) (priced t (terminal t)) (ranked_in (cost_is h.there)))
  where
    go : Closed t j (terminal t) ⊎ Every (λ x. T (before x (priced t (terminal t)))) (take j (ranked t))
        → j ≤ length (keep (λ x. before x (priced t (terminal t))) (ranked t))
    go (inl m) = absurd (away m)
    go (inr f) =
        let n = length_within (take j (ranked t)) (keep (λ x. before x (priced t (terminal t))) (ranked t)) (front_unique t j)
        (λ x m. keep_in (λ x. before x (priced t (terminal t))) (take_out j (ranked t) x m) (f x m)) in
        omega (arith, length-take j (ranked t))

-- after E steps the terminal comes
pub terminal_comes : (t : Trellis) → Reached t (terminal t) → take (suc (steps t)) (ranked t) ≡ take (steps t) (ranked t) ++ (priced t (terminal t) ∷ [])
terminal_comes t h =
    let z : Entry = priced t (terminal t) in
    let r = place_out z (ranked t) {a = z} (ranked_in (cost_is h.there)) in
    let grows : take (suc r.index) (ranked t) ≡ take r.index (ranked t) ++ (z ∷ []) =
    take-suc (ranked t) r.index z r.within ∙ ap (λ (u : Entry). take r.index (ranked t) ++ (u ∷ [])) r.equal in
    subst (λ (n : ℕ). take (suc n) (ranked t) ≡ take n (ranked t) ++ (z ∷ [])) (sym (steps_at t r.index z grows refl)) grows

-- E is finite: fewer steps than ranked nodes
pub steps_few : (t : Trellis) → Reached t (terminal t) → steps t < length (ranked t)
steps_few t h = next_inside t (steps t) (priced t (terminal t)) (terminal_comes t h)

-- ---- D is above j

module _ (t : Trellis) (j : ℕ) where
  -- the first j + 1 nodes in order
  abbrev firsts : List Entry
  firsts = take (suc j) (ranked t)

  -- each has its own cost
  known : (e : Entry) → e ∈ firsts → Priced t e
  known e m = ranked_out t (take_out (suc j) (ranked t) e m)

  -- no node twice, as its cost is one
  firsts_unique : Unique (map (λ e. e.node) firsts)
  firsts_unique =
      map_unique (λ e. e.node) firsts
      (λ a b m k same. entry_path (cost_unique (known a m) (subst (λ (x : Node). Cost t x b.cost) (sym same) (known b k))) same)
      (front_unique t (suc j))

  -- each is the origin or entered from one of the first j
  firsts_met : (e : Entry) → e ∈ firsts → e.node ∈ met_nodes t j
  firsts_met e m = go e.node.level refl
    where
      go : (n : ℕ) → e.node.level ≡ n → e.node ∈ met_nodes t j
      go zero low = here (reached_origin low (record { path = (known e m).path; there = (known e m).there }))
      go (suc n) up =
          let r = foregoer (omega arith) (known e m) in
          met_in t j e.node
          (record {
            source = r.from;
            input = r.input;
            member = take_before before before_order j (ranked t) (ranked_sorted t) m r.member r.earlier;
            fits = r.fits;
            equal = ap (λ (x : Entry). x.node) r.gives;
          })

  -- D(j) is at least j + 1: so E + 1 nodes have no more rows or entries than the room
  pub ranked_met : j < length (ranked t) → suc j ≤ met t j
  ranked_met h =
      let n = length_some_met t j (map (λ e. e.node) firsts) firsts_unique (λ x w. go x (map_out (λ e. e.node) firsts w)) in
      omega (arith, length-map firsts (λ (e : Entry). e.node), length-take (suc j) (ranked t))
    where
      go : (x : Node) → Mapped (λ (e : Entry). e.node) firsts x → x ∈ met_nodes t j
      go x r = member_cast r.equal (firsts_met r.source r.member)
