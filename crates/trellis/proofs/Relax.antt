-- For law 8, amid an expansion: what holds of the rows after the first branches of a closed row, and that one branch more keeps it or is
-- stopped by a room smaller than D. Assumes nothing.
use mathlib.Core.Path.{◌≡◌, refl, sym, ap, ◌∙◌, subst}
use mathlib.Core.Logic.{◌⊎◌, inl, inr}
use mathlib.Core.List.{List, [], ◌∷◌}
use mathlib.Core.Bool.{Bool, true, false, true≢false}
use Prim.Native.Nat.{ℕ, suc, ◌≤◌, ◌<◌, min}
use native.Mathlib.Omega.{arith}
use lib.ListN.{length, take, length-set, length-append}
use Rattle.lists.proofs.Membership.{◌∈◌, here, further, member_cast, eq_or_lt, take_out}
use Rattle.trellis.specs.Trellis.{Trellis, Node, allowed}
use Rattle.trellis.specs.Verdict.{Entry, ranked, met}
use Rattle.trellis.specs.Search.{Row, row_at, entry_at, node_at, cost_at, added, lowered, gained, joined, Tried, arrival, relax}
use Rattle.trellis.proofs.Recurrence.{cost_enters}
use Rattle.trellis.proofs.Order.{entry_path}
use Rattle.trellis.proofs.Ranked.{ranked_out}
use Rattle.trellis.proofs.MetNodes.{met_in}
use Rattle.trellis.proofs.Sharing.{Branch, branch, lands, Fits, shared, starting}
use Rattle.trellis.proofs.Rows.{Changed, set_changed, added_changed}
use Rattle.trellis.proofs.Entered.{Unmet, Entered, lowers, joins, leaves, adds, stops, entered_is}
use Rattle.trellis.proofs.Table.{Link, Table, Taken, Arrives, ways, ways_none, ways_more, ways_same, table_change}
use Rattle.trellis.proofs.Trace.{row_above}
use Rattle.trellis.proofs.RowsMet.{rows_short}

-- the branches of an entry from an input upwards
abbrev pub From : Entry → ℕ → Branch → Type 0
From z b f = (f.source ≡ z) × (b ≤ f.input)

-- j nodes are closed, z the last of them in row i, and of its branches those below input b are taken
pub record Amid (t : Trellis) (cap room j i : ℕ) (z : Entry) (b : ℕ) (rows : List Row) : Type 0 where
  pub here : entry_at rows i ≡ z
  pub taken : List Branch
  pub table : Table t cap j taken rows
  pub all : Taken t j (From (entry_at rows i) b) taken
  pub within : i < length rows
  pub shut : (row_at rows i).closed ≡ true
  pub counted : (row_at rows i).count ≡ min cap (shared t (entry_at rows i))
  pub held : length rows ≤ room

-- a try went on, or room was short
pub record Going (Fits : List Row → Type 0) (Short : Type 0) (r : Tried) : Type 0 where
  pub went : r.full ≡ false → Fits r.rows
  pub stuck : r.full ≡ true → Short

-- where it is known which
went : {Fits : List Row → Type 0} {Short : Type 0} (rows : List Row) → Fits rows → Going Fits Short (record { rows = rows; full = false })
went rows h = record { went = (λ _. h); stuck = (λ e. absurd (true≢false (sym e))) }

stuck : {Fits : List Row → Type 0} {Short : Type 0} (rows : List Row) → Short → Going Fits Short (record { rows = rows; full = true })
stuck rows h = record { went = (λ e. absurd (true≢false e)); stuck = (λ _. h) }

-- one branch more is taken
taken_more : {t : Trellis} {j b : ℕ} {z : Entry} {taken : List Branch} → z ∈ take j (ranked t) → b < allowed t z.node.level
    → Taken t j (From z b) taken → Taken t j (From z (suc b)) (branch z b ∷ taken)
taken_more {t} {j} {b} {z} {taken} z_closed u done = record {
  once = ((λ m. done.new (branch z b) m (refl, omega arith)), done.once);
  sources = (λ f m. sources' f m);
  fits = (λ f m. fits' f m);
  new = (λ f m p. new' f m p);
  full = (λ f m h. full' f (done.full f m h));
}
  where
    sources' : (f : Branch) → f ∈ (branch z b ∷ taken) → f.source ∈ take j (ranked t)
    sources' f (here e) = member_cast (ap (λ (g : Branch). g.source) e) z_closed
    sources' f (further m) = done.sources f m

    fits' : (f : Branch) → f ∈ (branch z b ∷ taken) → Fits t f
    fits' f (here e) = subst (Fits t) (sym e) u
    fits' f (further m) = done.fits f m

    new' : (f : Branch) → f ∈ (branch z b ∷ taken) → From z (suc b) f → ⊥
    new' f (here e) p = omega (arith, ap (λ (g : Branch). g.input) e, p.1)
    new' f (further m) p = done.new f m (p.0, omega (arith, p.1))

    full' : (f : Branch) → (f ∈ taken) ⊎ From z b f → (f ∈ (branch z b ∷ taken)) ⊎ From z (suc b) f
    full' f (inl m) = inl (further m)
    full' f (inr p) = go (eq_or_lt b f.input (omega (arith, p.1)))
      where
        go : (b ≡ f.input) ⊎ (b < f.input) → (f ∈ (branch z b ∷ taken)) ⊎ From z (suc b) f
        go (inl e) = inl (here (λ i. branch (p.0 i) (sym e i)))
        go (inr l) = inr (p.0, l)

-- for a row that is not closed
not_closed : (b : Bool) → (b ≡ true → ⊥) → b ≡ false
not_closed true f = absurd (f refl)
not_closed false f = refl

module _ {t : Trellis} {cap room j i : ℕ} {z : Entry} {b : ℕ} {rows : List Row}
    (inv : Amid t cap room j i z b rows) (u : b < allowed t (node_at rows i).level) where
  abbrev g : Branch
  g = branch (entry_at rows i) b

  abbrev a : Row
  a = arrival t rows i b

  z_closed : entry_at rows i ∈ take j (ranked t)
  z_closed = inv.table.shut i inv.within inv.shut

  link : Link t rows a
  link = record { within = inv.within; shut = inv.shut; fits = u; comes = refl }

  -- the rows with the branch's node in place
  amid_change : (after : List Row) (k : ℕ) (r : Row) → Changed rows after k r → Arrives t cap inv.taken rows g k r → length after ≤ room
      → Amid t cap room j i z (suc b) after
  amid_change after k r C A h =
      let same : row_at after i ≡ row_at rows i = C.others i (omega (arith, inv.within, C.longer)) apart in
      record {
        here = ap (λ (s : Row). s.entry) same ∙ inv.here;
        taken = g ∷ inv.taken;
        table = table_change inv.table C A;
        all = subst (λ (s : Row). Taken t j (From s.entry (suc b)) (g ∷ inv.taken)) (sym same) (taken_more z_closed u inv.all);
        within = omega (arith, inv.within, C.longer);
        shut = subst (λ (s : Row). s.closed ≡ true) (sym same) inv.shut;
        counted = subst (λ (s : Row). s.count ≡ min cap (shared t s.entry)) (sym same) inv.counted;
        held = h;
      }
    where
      -- the branch leads a level up, so not to row i
      apart : i ≡ k → ⊥
      apart e =
          let n : r.entry.node ≡ node_at rows k = (A.known (rw (sym e) inv.within)).node in
          omega (arith, ap (λ (x : Node). x.level) n, ap (λ (x : Node). x.level) A.node, ap (λ (k : ℕ). (node_at rows k).level) e)

  -- the first way at this cost: as many paths as the source has
  counted_first : ((f : Branch) → f ∈ inv.taken → lands t f ≡ a.entry → ⊥) → a.count ≡ min cap (ways t (g ∷ inv.taken) a.entry)
  unfolding starting
  counted_first none = omega (arith, inv.counted, ways_more t inv.taken a.entry g refl, ways_none t inv.taken a.entry none)

  -- ---- the node has a row

  module _ (k : ℕ) (h : k < length rows) (e : node_at rows k ≡ a.entry.node) where
    only : (l : ℕ) → l < length rows → node_at rows l ≡ (lands t g).node → l ≡ k
    only l m q = inv.table.once l k m h (q ∙ sym e)

    above : 0 < k
    above = row_above inv.table k (node_at rows i).level (ap (λ (x : Node). x.level) e)

    -- a closed row is no dearer than any way to it
    closed_low : (row_at rows k).closed ≡ true → cost_at rows k ≤ a.entry.cost
    closed_low c =
        cost_enters (ranked_out t (take_out j (ranked t) (entry_at rows k) (inv.table.shut k h c)))
        (ranked_out t (take_out j (ranked t) (entry_at rows i) z_closed))
        (record { fits = u; leads = e })

    -- a cheaper way
    amid_lowered : a.entry.cost < cost_at rows k → Amid t cap room j i z (suc b) (lowered rows k a)
    amid_lowered l = amid_change (lowered rows k a) k a (set_changed rows k a h) (record {
      node = refl;
      small = omega arith;
      link = link;
      counted = counted_first (λ f m q. first f m q);
      only = only;
      known = (λ _. record { node = sym e; closed = sym (not_closed (row_at rows k).closed live); exact = (λ c. absurd (live c)); cheaper = omega arith });
      fresh = (λ w. absurd (omega arith));
    }) (rw (length-set rows k a) inv.held)
      where
        live : (row_at rows k).closed ≡ true → ⊥
        live c = omega (arith, closed_low c)

        first : (f : Branch) → f ∈ inv.taken → lands t f ≡ a.entry → ⊥
        first f m q =
            let s = inv.table.reach f m in
            let w : s.row ≡ k = only s.row s.within (s.equal ∙ ap (λ (x : Entry). x.node) q) in
            omega (arith, s.small, ap (λ (x : ℕ). cost_at rows x) w, ap (λ (x : Entry). x.cost) q)

    -- the row with so many paths more
    abbrev more : Row
    more = gained cap a.count (row_at rows k)

    -- a way at the same cost
    amid_joined : a.entry.cost ≡ cost_at rows k → Amid t cap room j i z (suc b) (joined cap rows k a.count)
    amid_joined c = amid_change (joined cap rows k a.count) k more (set_changed rows k more h) (record {
      node = e;
      small = omega arith;
      link = record { within = own.within; shut = own.shut; fits = own.fits; comes = own.comes };
      counted = omega (arith, inv.counted, inv.table.counted k h, ways_more t inv.taken (entry_at rows k) g (entry_path c (sym e)));
      only = only;
      known = (λ _. record { node = refl; closed = refl; exact = (λ _. refl); cheaper = omega arith });
      fresh = (λ w. absurd (omega arith));
    }) (rw (length-set rows k more) inv.held)
      where
        own : Link t rows (row_at rows k)
        own = inv.table.linked k above h

    -- a dearer way
    amid_left : cost_at rows k < a.entry.cost → Amid t cap room j i z (suc b) rows
    amid_left l = amid_change rows k (row_at rows k) same (record {
      node = e;
      small = omega arith;
      link = inv.table.linked k above h;
      counted = inv.table.counted k h ∙ ap (min cap) (sym (ways_same t inv.taken (entry_at rows k) g (λ q. omega (arith, ap (λ (x : Entry). x.cost) q))));
      only = only;
      known = (λ _. record { node = refl; closed = refl; exact = (λ _. refl); cheaper = omega arith });
      fresh = (λ w. absurd (omega arith));
    }) inv.held
      where
        same : Changed rows rows k (row_at rows k)
        same = record { within = h; here = refl; longer = omega arith; older = (λ l m d. m); others = (λ l m d. refl) }

  -- ---- the node has none

  module _ (none : Unmet rows a) where
    -- a row more, where there is room
    amid_added : length rows < room → Amid t cap room j i z (suc b) (added rows a)
    amid_added h = amid_change (added rows a) (length rows) a (added_changed rows a) (record {
      node = refl;
      small = omega arith;
      link = link;
      counted = counted_first (λ f m q. let s = inv.table.reach f m in none s.row s.within (s.equal ∙ ap (λ (x : Entry). x.node) q));
      only = (λ l m q. absurd (none l m q));
      known = (λ w. absurd (omega arith));
      fresh = (λ _. refl);
    }) (omega (arith, length-append rows (a ∷ [])))

    -- no room: then D is above it
    amid_full : room ≤ length rows → room < met t j
    amid_full h =
        let w : length rows < met t j = rows_short inv.table a.entry.node
        (met_in t j a.entry.node (record { source = entry_at rows i; input = b; member = z_closed; fits = u; equal = refl })) none in
        omega arith

  -- ---- one branch

  -- the branch taken, or no room: what the loop over inputs cites
  pub relax_going : Going (Amid t cap room j i z (suc b)) (room < met t j) (relax t cap room i b rows)
  unfolding relax
  relax_going = go (entered_is cap room rows a)
    where
      go : {r : Tried} → Entered cap room rows a r → Going (Amid t cap room j i z (suc b)) (room < met t j) r
      go (lowers k h e l) = went (lowered rows k a) (amid_lowered k h e l)
      go (joins k h e c) = went (joined cap rows k a.count) (amid_joined k h e c)
      go (leaves k h e l) = went rows (amid_left k h e l)
      go (adds none h) = went (added rows a) (amid_added none h)
      go (stops none h) = stuck rows (amid_full none h)
