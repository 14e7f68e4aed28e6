-- For law 8: what the rows of the search say: the table's invariant, over the branches taken so far, and that a row for the next branch
-- keeps it. Where the rows' paths are is in Trace, the search's own steps in Relax and Between. Assumes nothing.
use mathlib.Core.Path.{◌≡◌, sym, ap, ◌∙◌, subst}
use mathlib.Core.Logic.{◌⊎◌, inl, inr}
use mathlib.Core.List.{List, [], ◌∷◌, map}
use mathlib.Core.Bool.{Bool, true, false, ◌&&◌, true≢false}
use Prim.Native.Nat.{ℕ, ◌+◌, ◌≤◌, ◌<◌, min}
use native.Mathlib.Decide.{ℕ_discrete, dec_lt}
use native.Mathlib.Omega.{arith}
use lib.Dec.{T, eqb, eqb→eq, eqb_refl}
use lib.ListN.{length, take}
use Rattle.lists.specs.Lists.{keep}
use Rattle.lists.proofs.Tests.{and_in, and_out}
use Rattle.lists.proofs.Membership.{◌∈◌, here, further, member_cast, keep_yes, keep_no, keep_none}
use Rattle.lists.proofs.Unique.{Unique}
use Rattle.lists.proofs.Distinct.{Equality}
use Rattle.trellis.specs.Trellis.{Trellis, Node, same, terminal, allowed}
use Rattle.trellis.specs.Verdict.{Entry, entry, ranked, onto}
use Rattle.trellis.specs.Search.{Row, row_at, entry_at, node_at, cost_at}
use Rattle.trellis.proofs.Paths.{same_equality}
use Rattle.trellis.proofs.Order.{entry_path}
use Rattle.trellis.proofs.Step.{Closed}
use Rattle.trellis.proofs.Sharing.{Branch, lands, Fits, shared, starting, total}
use Rattle.trellis.proofs.Rows.{Changed}

-- ---- branches that arrive

-- two entries are one
abbrev pub alike : Entry → Entry → Bool
alike x y = eqb x.cost y.cost && same x.node y.node

-- so keep by it is keep by equality
pub alike_equality : Equality alike
alike_equality = record {
  sound = (λ x y h. sound x y h);
  complete = (λ x. and_in (eqb x.cost x.cost) (same x.node x.node) (eqb_refl x.cost) (same_equality.complete x.node));
}
  where
    sound : (x y : Entry) → T (alike x y) → x ≡ y
    sound x y h =
        let r = and_out (eqb x.cost y.cost) (same x.node y.node) h in
        entry_path (eqb→eq x.cost y.cost r.0) (same_equality.sound x.node y.node r.1)

-- the taken branches that bring an entry just its cost
abbrev pub arriving : Trellis → List Branch → Entry → List Branch
arriving t taken e = keep (λ f. alike (lands t f) e) taken

-- how many paths of an entry's cost the taken branches bring, and the empty path at level 0
unfoldable pub ways : Trellis → List Branch → Entry → ℕ
ways t taken e = starting e.node.level + total (map (λ f. shared t f.source) (arriving t taken e))

module _ (t : Trellis) (taken : List Branch) (e : Entry) where
  -- no branch brings it
  pub ways_none : ((f : Branch) → f ∈ taken → lands t f ≡ e → ⊥) → ways t taken e ≡ starting e.node.level
  unfolding ways total
  ways_none none =
      let l : arriving t taken e ≡ [] = keep_none (λ f. alike (lands t f) e) taken (λ f m h. none f m (alike_equality.sound (lands t f) e h)) in
      let n : total (map (λ (f : Branch). shared t f.source) (arriving t taken e)) ≡ 0 =
      ap (λ (k : List Branch). total (map (λ f. shared t f.source) k)) l in
      omega arith

  module _ (g : Branch) where
    -- one more branch brings it
    pub ways_more : lands t g ≡ e → ways t (g ∷ taken) e ≡ shared t g.source + ways t taken e
    unfolding ways total
    ways_more h =
        let hit : T (alike (lands t g) e) = subst (λ (u : Entry). T (alike (lands t g) u)) h (alike_equality.complete (lands t g)) in
        omega (arith, ap (λ (k : List Branch). total (map (λ f. shared t f.source) k)) (keep_yes (λ f. alike (lands t f) e) g taken hit))

    -- one more branch brings something else
    pub ways_same : (lands t g ≡ e → ⊥) → ways t (g ∷ taken) e ≡ ways t taken e
    unfolding ways
    ways_same off = ap (λ (k : List Branch). starting e.node.level + total (map (λ f. shared t f.source) k))
        (keep_no (λ f. alike (lands t f) e) g taken (λ h. off (alike_equality.sound (lands t g) e h)))

-- ---- the invariant

-- where a row other than the origin's came from: a closed row, by an allowed branch
pub record Link (t : Trellis) (rows : List Row) (r : Row) : Type 0 where
  pub within : r.parent < length rows
  pub shut : (row_at rows r.parent).closed ≡ true
  pub fits : r.input < allowed t (node_at rows r.parent).level
  pub comes : r.entry ≡ onto t (entry_at rows r.parent) r.input

-- an entry that a closed row has
pub record Stored (rows : List Row) (e : Entry) : Type 0 where
  pub row : ℕ
  pub within : row < length rows
  pub shut : (row_at rows row).closed ≡ true
  pub equal : entry_at rows row ≡ e

-- a row for the entry's node, no dearer than the entry
pub record Covered (rows : List Row) (e : Entry) : Type 0 where
  pub row : ℕ
  pub within : row < length rows
  pub equal : node_at rows row ≡ e.node
  pub small : cost_at rows row ≤ e.cost

-- the rows with j nodes closed and some branches taken
pub record Table (t : Trellis) (cap j : ℕ) (taken : List Branch) (rows : List Row) : Type 0 where
  -- the origin has the first row
  pub some : 0 < length rows
  pub first : entry_at rows 0 ≡ entry 0 0 0
  -- every other row came from a closed one
  pub linked : (i : ℕ) → 0 < i → i < length rows → Link t rows (row_at rows i)
  -- no node has two rows
  pub once : (i k : ℕ) → i < length rows → k < length rows → node_at rows i ≡ node_at rows k → i ≡ k
  -- the closed rows are the first j ranked nodes
  pub shut : (i : ℕ) → i < length rows → (row_at rows i).closed ≡ true → entry_at rows i ∈ take j (ranked t)
  pub stored : (e : Entry) → e ∈ take j (ranked t) → Stored rows e
  -- every taken branch leads to a row, no dearer than what it brings
  pub reach : (f : Branch) → f ∈ taken → Covered rows (lands t f)
  -- every count is that of the paths which the taken branches bring
  pub counted : (i : ℕ) → i < length rows → (row_at rows i).count ≡ min cap (ways t taken (entry_at rows i))
  -- the terminal is not closed
  pub ahead : Closed t j (terminal t) → ⊥

-- all branches of the first j ranked nodes are taken, each once, but those that are pending
pub record Taken (t : Trellis) (j : ℕ) (Pending : Branch → Type 0) (taken : List Branch) : Type 0 where
  pub once : Unique taken
  pub sources : (f : Branch) → f ∈ taken → f.source ∈ take j (ranked t)
  pub fits : (f : Branch) → f ∈ taken → Fits t f
  pub new : (f : Branch) → f ∈ taken → Pending f → ⊥
  pub full : (f : Branch) → f.source ∈ take j (ranked t) → Fits t f → (f ∈ taken) ⊎ Pending f

-- ---- one more branch

-- what becomes of a row: it keeps its node and whether it is closed; a closed one keeps its cost, an open one may fall
pub record Survives (old new : Row) : Type 0 where
  pub node : new.entry.node ≡ old.entry.node
  pub closed : new.closed ≡ old.closed
  pub exact : old.closed ≡ true → new.entry ≡ old.entry
  pub cheaper : new.entry.cost ≤ old.entry.cost

-- r, at index k, is the row of the node that the branch g leads to
pub record Arrives (t : Trellis) (cap : ℕ) (taken : List Branch) (rows : List Row) (g : Branch) (k : ℕ) (r : Row) : Type 0 where
  pub node : r.entry.node ≡ (lands t g).node
  pub small : r.entry.cost ≤ (lands t g).cost
  pub link : Link t rows r
  pub counted : r.count ≡ min cap (ways t (g ∷ taken) r.entry)
  pub only : (i : ℕ) → i < length rows → node_at rows i ≡ (lands t g).node → i ≡ k
  pub known : k < length rows → Survives (row_at rows k) r
  pub fresh : length rows ≤ k → r.closed ≡ false

-- a row that is not changed
survives_same : (r s : Row) → s ≡ r → Survives r s
survives_same r s e = record {
  node = ap (λ (u : Row). u.entry.node) e;
  closed = ap (λ (u : Row). u.closed) e;
  exact = (λ _. ap (λ (u : Row). u.entry) e);
  cheaper = omega (arith, ap (λ (u : Row). u.entry.cost) e);
}

module _ {t : Trellis} {cap j : ℕ} {taken : List Branch} {rows after : List Row} {g : Branch} {k : ℕ} {r : Row}
    (inv : Table t cap j taken rows) (C : Changed rows after k r) (A : Arrives t cap taken rows g k r) where
  -- what becomes of each row, the changed one too
  pub survives : (i : ℕ) → i < length rows → Survives (row_at rows i) (row_at after i)
  survives i h = go (ℕ_discrete i k)
    where
      go : Dec (i ≡ k) → Survives (row_at rows i) (row_at after i)
      go (yes e) =
          subst (λ (u : ℕ). Survives (row_at rows u) (row_at after u)) (sym e)
          (subst (λ (u : Row). Survives (row_at rows k) u) (sym C.here) (A.known (rw (sym e) h)))
      go (no d) = survives_same (row_at rows i) (row_at after i) (C.others i (omega (arith, C.longer)) d)

  -- where a row came from is still there
  link_more : (s : Row) → Link t rows s → Link t after s
  link_more s l =
      let v : Survives (row_at rows s.parent) (row_at after s.parent) = survives s.parent l.within in
      let e : entry_at after s.parent ≡ entry_at rows s.parent = v.exact l.shut in
      record {
        within = omega (arith, l.within, C.longer);
        shut = v.closed ∙ l.shut;
        fits = subst (λ (u : Entry). s.input < allowed t u.node.level) (sym e) l.fits;
        comes = l.comes ∙ ap (λ (u : Entry). onto t u s.input) (sym e);
      }

  -- a row of the table now is r, or it was there
  record New (i : ℕ) : Type 0 where
    place : i ≡ k
    equal : row_at after i ≡ r

  -- it was there, and is as it was
  record Old (i : ℕ) : Type 0 where
    within : i < length rows
    equal : row_at after i ≡ row_at rows i
    apart : i ≡ k → ⊥

  -- it is one or the other
  view : (i : ℕ) → i < length after → New i ⊎ Old i
  view i h = go (ℕ_discrete i k)
    where
      go : Dec (i ≡ k) → New i ⊎ Old i
      go (yes e) = inl (record { place = e; equal = ap (row_at after) e ∙ C.here })
      go (no d) = inr (record { within = C.older i h d; equal = C.others i h d; apart = d })

  -- no other row has r's node
  alone : (i : ℕ) → Old i → node_at rows i ≡ (lands t g).node → ⊥
  alone i o e = o.apart (A.only i o.within e)

  -- the table with the branch taken
  pub table_change : Table t cap j (g ∷ taken) after
  table_change = record {
    some = omega (arith, inv.some, C.longer);
    first = first' (view 0 (omega (arith, inv.some, C.longer)));
    linked = (λ i u h. linked' i u (view i h));
    once = (λ i l h m e. once' i l h m e (view i h) (view l m));
    shut = (λ i h c. shut' i c (view i h));
    stored = (λ e m. stored' (inv.stored e m));
    reach = (λ f m. reach' f m);
    counted = (λ i h. counted' i (view i h));
    ahead = inv.ahead;
  }
    where
      first' : New 0 ⊎ Old 0 → entry_at after 0 ≡ entry 0 0 0
      first' (inl n) =
          let v : (node_at after 0).level ≡ (node_at rows 0).level = ap (λ (u : Node). u.level) (survives 0 inv.some).node in
          absurd (omega (
            arith,
            ap (λ (u : Entry). u.node.level) inv.first,
            ap (λ (u : Row). u.entry.node.level) n.equal,
            ap (λ (u : Node). u.level) A.node,
          ))
      first' (inr o) = ap (λ (u : Row). u.entry) o.equal ∙ inv.first

      linked' : (i : ℕ) → 0 < i → New i ⊎ Old i → Link t after (row_at after i)
      linked' i u (inl n) = subst (Link t after) (sym n.equal) (link_more r A.link)
      linked' i u (inr o) = subst (Link t after) (sym o.equal) (link_more (row_at rows i) (inv.linked i u o.within))

      once' : (i l : ℕ) → i < length after → l < length after → node_at after i ≡ node_at after l → New i ⊎ Old i → New l ⊎ Old l → i ≡ l
      once' i l h m e (inl p) (inl q) = p.place ∙ sym q.place
      once' i l h m e (inl p) (inr q) = absurd (alone l q (cc (e, p.equal, q.equal, A.node)))
      once' i l h m e (inr p) (inl q) = absurd (alone i p (cc (e, q.equal, p.equal, A.node)))
      once' i l h m e (inr p) (inr q) = inv.once i l p.within q.within (cc (e, p.equal, q.equal))

      again : r.closed ≡ true → Dec (k < length rows) → r.entry ∈ take j (ranked t)
      again c (yes h) = let v = A.known h in let o : (row_at rows k).closed ≡ true = sym v.closed ∙ c in member_cast (v.exact o) (inv.shut k h o)
      again c (no h) = absurd (true≢false (sym c ∙ A.fresh (omega arith)))

      shut' : (i : ℕ) → (row_at after i).closed ≡ true → New i ⊎ Old i → entry_at after i ∈ take j (ranked t)
      shut' i c (inl n) = member_cast (ap (λ (u : Row). u.entry) n.equal) (again (cc (c, n.equal)) (dec_lt k (length rows)))
      shut' i c (inr o) = member_cast (ap (λ (u : Row). u.entry) o.equal) (inv.shut i o.within (cc (c, o.equal)))

      stored' : {e : Entry} → Stored rows e → Stored after e
      stored' s =
          let v = survives s.row s.within in
          record { row = s.row; within = omega (arith, s.within, C.longer); shut = v.closed ∙ s.shut; equal = v.exact s.shut ∙ s.equal }

      reach' : (f : Branch) → f ∈ (g ∷ taken) → Covered after (lands t f)
      reach' f (here e) = subst (λ (u : Branch). Covered after (lands t u)) (sym e)
          (record {
            row = k;
            within = C.within;
            equal = ap (λ (u : Row). u.entry.node) C.here ∙ A.node;
            small = omega (arith, ap (λ (u : Row). u.entry.cost) C.here, A.small);
          })
      reach' f (further m) =
          let s = inv.reach f m in
          let v = survives s.row s.within in
          record { row = s.row; within = omega (arith, s.within, C.longer); equal = v.node ∙ s.equal; small = omega (arith, v.cheaper, s.small) }

      counted' : (i : ℕ) → New i ⊎ Old i → (row_at after i).count ≡ min cap (ways t (g ∷ taken) (entry_at after i))
      counted' i (inl n) = subst (λ (u : Row). u.count ≡ min cap (ways t (g ∷ taken) u.entry)) (sym n.equal) A.counted
      counted' i (inr o) = subst (λ (u : Row). u.count ≡ min cap (ways t (g ∷ taken) u.entry)) (sym o.equal)
          (inv.counted i o.within ∙ ap (min cap) (sym (ways_same t taken (entry_at rows i) g (λ e. alone i o (ap (λ (u : Entry). u.node) (sym e))))))
