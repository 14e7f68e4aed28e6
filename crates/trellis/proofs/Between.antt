-- For law 8, between two steps: what holds of the rows when all branches of the closed nodes are taken. The origin alone is such a table;
-- its first open row is the next ranked node, with as many least paths as its count says; there is one until the terminal is closed. The
-- step itself is in Expand. Assumes nothing.
use mathlib.Core.Path.{◌≡◌, refl, sym, ap, ◌∙◌, subst}
use mathlib.Core.Logic.{◌⊎◌, inl, inr}
use mathlib.Core.List.{List, [], ◌∷◌, ◌++◌}
use mathlib.Core.Bool.{Bool, true, false, true≢false}
use Prim.Native.Nat.{ℕ, zero, suc, ◌≤◌, ◌<◌, min}
use native.Mathlib.Decide.{dec_lt}
use native.Mathlib.Omega.{arith}
use lib.Dec.{T}
use lib.ListN.{length, take}
use Rattle.lists.specs.Lists.{keep}
use Rattle.lists.proofs.Membership.{◌∈◌, nil_out, member_cast, take_out, Kept, keep_in, keep_out}
use Rattle.lists.proofs.Unique.{keep_unique}
use Rattle.trellis.specs.Trellis.{Trellis, terminal}
use Rattle.trellis.specs.Verdict.{Entry, entry, priced, before, ranked, met, onto}
use Rattle.trellis.specs.Search.{Row, row_at, entry_at, node_at, cost_at, started, first_open}
use Rattle.trellis.specs.Safe.{Attained}
use Rattle.trellis.proofs.Paths.{Reached, node_path}
use Rattle.trellis.proofs.Cost.{cost_computed}
use Rattle.trellis.proofs.Order.{before_order, entry_path, onto_later}
use Rattle.trellis.proofs.Ranked.{Priced, ranked_out}
use Rattle.trellis.proofs.Step.{AtMost, at_most_before, Closed, Offered, Frontier, all_closed}
use Rattle.trellis.proofs.Step.{ranked_after, next_exact, next_ranked}
use Rattle.trellis.proofs.Sharing.{Branch, branch, lands, Fits, LeastBranches, shared, starting, total, sharing_total}
use Rattle.trellis.proofs.Scan.{First, first_open_is}
use Rattle.trellis.proofs.Table.{alike, alike_equality, arriving, ways, Covered, Table, Taken}
use Rattle.trellis.proofs.Trace.{row_attained}
use Rattle.trellis.proofs.RowsMet.{rows_met}

-- j nodes are closed, and all of their branches are taken
pub record Between (t : Trellis) (cap room j : ℕ) (rows : List Row) : Type 0 where
  pub taken : List Branch
  pub table : Table t cap j taken rows
  pub all : Taken t j (λ f. ⊥) taken
  pub held : length rows ≤ room

-- ---- the start

-- the origin alone, before the first step
pub started_between : (t : Trellis) (cap room : ℕ) → 1 ≤ cap → 1 ≤ room → Between t cap room 0 started
unfolding ways starting total keep
started_between t cap room c r = record {
  taken = [];
  table = record {
    some = omega arith;
    first = refl;
    linked = (λ i u h. absurd (omega arith));
    once = (λ i k h l e. omega arith);
    shut = (λ i h e. absurd (live i h e));
    stored = (λ e m. absurd (nil_out m));
    reach = (λ f m. absurd (nil_out m));
    counted = (λ i h. counted' i h);
    ahead = (λ m. nil_out m);
  };
  all = record {
    once = tt;
    sources = (λ f m. absurd (nil_out m));
    fits = (λ f m. absurd (nil_out m));
    new = (λ f m p. p);
    full = (λ f m h. absurd (nil_out m));
  };
  held = omega arith;
}
  where
    live : (i : ℕ) → i < 1 → (row_at started i).closed ≡ true → ⊥
    live zero h e = true≢false (sym e)
    live (suc i) h e = omega arith

    counted' : (i : ℕ) → i < 1 → (row_at started i).count ≡ min cap (ways t [] (entry_at started i))
    counted' zero h = omega arith
    counted' (suc i) h = absurd (omega arith)

-- ---- the frontier

-- an open row has the entry
pub record OpenRow (rows : List Row) (e : Entry) : Type 0 where
  pub row : ℕ
  pub within : row < length rows
  pub live : (row_at rows row).closed ≡ false
  pub equal : entry_at rows row ≡ e

-- one of the first j ranked nodes has its own cost
closed_in : (t : Trellis) (j : ℕ) (e : Entry) → e ∈ take j (ranked t) → Closed t j e.node
closed_in t j e m = member_cast (entry_path (sym (cost_computed (ranked_out t (take_out j (ranked t) e m)))) refl) m

module _ {t : Trellis} {cap room j : ℕ} {rows : List Row} (inv : Between t cap room j rows) where
  -- an open row's node is not closed
  pub open_apart : (i : ℕ) → i < length rows → (row_at rows i).closed ≡ false → Closed t j (node_at rows i) → ⊥
  open_apart i h e m =
      let s = inv.table.stored (priced t (node_at rows i)) m in
      let k : s.row ≡ i = inv.table.once s.row i s.within h (ap (λ (u : Entry). u.node) s.equal) in
      true≢false (sym s.shut ∙ ap (λ (u : ℕ). (row_at rows u).closed) k ∙ e)

  -- the open rows are the frontier of the closed nodes
  pub frontier_rows : Frontier t j (OpenRow rows)
  frontier_rows = record {
    start = offer (entry 0 0 0) (record {
      row = 0;
      within = inv.table.some;
      equal = ap (λ (e : Entry). e.node) inv.table.first;
      small = omega (arith, ap (λ (e : Entry). e.cost) inv.table.first);
    });
    front = (λ e b m u. offer (onto t e b) (pick (branch e b) (inv.all.full (branch e b) m u)));
    reached = (λ e o. subst (Attained t) o.equal (row_attained inv.table o.row o.within));
    apart = (λ e o k. open_apart o.row o.within o.live (subst (λ (u : Entry). Closed t j u.node) (sym o.equal) k));
  }
    where
      pick : (f : Branch) → (f ∈ inv.taken) ⊎ ⊥ → Covered rows (lands t f)
      pick f (inl m) = inv.table.reach f m
      pick f (inr m) = absurd m

      -- a row for the entry's node is closed, or it offers the entry
      offer : (e : Entry) → Covered rows e → Closed t j e.node ⊎ Offered (OpenRow rows) e
      offer e k = go (row_at rows k.row).closed refl
        where
          go : (shut : Bool) → (row_at rows k.row).closed ≡ shut → Closed t j e.node ⊎ Offered (OpenRow rows) e
          go true c = inl (rw k.equal at (closed_in t j (entry_at rows k.row) (inv.table.shut k.row k.within c)))
          go false c =
              let o : OpenRow rows (record { cost = cost_at rows k.row; node = e.node }) =
              record { row = k.row; within = k.within; live = c; equal = entry_path refl k.equal } in
              inr (record { cost = cost_at rows k.row; here = o; small = k.small })

  -- the rows are as many as D(j)
  pub between_met : length rows ≡ met t j
  between_met = rows_met inv.table inv.all

  -- there is an open row, if the terminal can be reached at all
  pub between_open : Reached t (terminal t) → first_open rows < length rows
  between_open r = go (dec_lt (first_open rows) (length rows))
    where
      go : Dec (first_open rows < length rows) → first_open rows < length rows
      go (yes h) = h
      go (no h) =
          let k : Closed t j _ = all_closed frontier_rows (λ e o. h ((first_open_is rows).some o.row o.within o.live)) r.there.allowed in
          absurd (inv.table.ahead (subst (Closed t j) (node_path r.there.level r.there.state) k))

-- ---- the first open row

-- z, in row i, is open and the next ranked node: its cost is right, and its count is that of its least paths
pub record Next (t : Trellis) (cap j i : ℕ) (rows : List Row) : Type 0 where
  pub live : (row_at rows i).closed ≡ false
  pub grows : take (suc j) (ranked t) ≡ take j (ranked t) ++ (entry_at rows i ∷ [])
  pub known : Priced t (entry_at rows i)
  pub counted : (row_at rows i).count ≡ min cap (shared t (entry_at rows i))

module _ {t : Trellis} {cap room j i : ℕ} {rows : List Row} (inv : Between t cap room j rows) (f : i ≡ first_open rows) (h : i < length rows) where
  -- the entry of row i
  abbrev z : Entry
  z = entry_at rows i

  -- what the scan says of it
  scan : First rows i
  scan = rw f (first_open_is rows)

  -- it is open, and no open row is before it
  z_open : OpenRow rows z
  z_open = record { row = i; within = h; live = scan.here h; equal = refl }

  z_least : (e : Entry) → OpenRow rows e → AtMost z e
  z_least e o = subst (λ (u : Entry). AtMost z u) o.equal (go (before_order.total z (entry_at rows o.row)))
    where
      go : T (before z (entry_at rows o.row)) ⊎ ((z ≡ entry_at rows o.row) ⊎ T (before (entry_at rows o.row) z))
          → AtMost z (entry_at rows o.row)
      go (inl b) = inr b
      go (inr (inl e)) = inl e
      go (inr (inr b)) = absurd (scan.least o.row o.within o.live b)

  -- the taken branches that bring z its cost are all that do
  least_branches : LeastBranches t z (arriving t inv.taken z)
  least_branches = record {
    once = keep_unique (λ g. alike (lands t g) z) inv.taken inv.all.once;
    known = (λ g m. ranked_out t (take_out j (ranked t) g.source (inv.all.sources g (kept g m).member)));
    fits = (λ g m. inv.all.fits g (kept g m).member);
    lands_there = (λ g m. alike_equality.sound (lands t g) z (kept g m).passes);
    full = (λ g p u e.
        keep_in (λ g. alike (lands t g) z) (inside g p u e (ranked_after (frontier_rows inv) z z_open z_least g.source p))
        (subst (λ (x : Entry). T (alike (lands t g) x)) e (alike_equality.complete (lands t g))));
  }
    where
      kept : (g : Branch) → g ∈ arriving t inv.taken z → Kept (λ g. alike (lands t g) z) inv.taken g
      kept g m = keep_out (λ g. alike (lands t g) z) inv.taken m

      pick : (g : Branch) → (g ∈ inv.taken) ⊎ ⊥ → g ∈ inv.taken
      pick g (inl m) = m
      pick g (inr m) = absurd m

      -- what a branch brings stands later than its source, so the source of z's branch stands before z
      inside : (g : Branch) → Priced t g.source → Fits t g → lands t g ≡ z → (g.source ∈ take j (ranked t)) ⊎ AtMost z g.source
          → g ∈ inv.taken
      inside g p u e (inl m) = pick g (inv.all.full g m u)
      inside g p u e (inr a) =
          let b : T (before g.source z) = subst (λ (x : Entry). T (before g.source x)) e (onto_later t g.source g.input) in
          absurd (before_order.irrefl z (at_most_before z g.source z a b))

  -- THE STEP, for the rows: what expanding and answering rest on
  pub between_next : Next t cap j i rows
  unfolding ways
  between_next =
      let F = frontier_rows inv in
      let p : Priced t z = next_exact F z z_open z_least in
      record {
        live = scan.here h;
        grows = next_ranked F z z_open z_least;
        known = p;
        counted = inv.table.counted i h ∙ ap (min cap) (sym (sharing_total p least_branches));
      }
