-- For law 8, one step of the search: closing the first open row, then taking its branches, leads from between two steps to between the next
-- two, or the room is smaller than D there. Assumes nothing.
use mathlib.Core.Path.{◌≡◌, refl, sym, ap, ap₂, ◌∙◌, subst}
use mathlib.Core.Logic.{◌⊎◌, inl, inr}
use mathlib.Core.List.{List, [], ◌∷◌}
use mathlib.Core.Bool.{Bool, true, false, true≢false}
use Prim.Native.Nat.{ℕ, zero, suc, ◌+◌, ◌≤◌, ◌<◌, min}
use native.Mathlib.Decide.{ℕ_discrete}
use native.Mathlib.Omega.{arith}
use lib.ListN.{length, take, length-set}
use Rattle.lists.proofs.Membership.{◌∈◌, here, singleton_out, append_out, append_left, append_right, member_cast}
use Rattle.trellis.specs.Trellis.{Trellis, terminal, allowed}
use Rattle.trellis.specs.Verdict.{Entry, priced, ranked, met, onto}
use Rattle.trellis.specs.Search.{Row, row_at, entry_at, node_at, first_open, shut, closed, Tried, relax, onward, fan, expand}
use Rattle.trellis.proofs.Cost.{cost_computed}
use Rattle.trellis.proofs.Order.{entry_path}
use Rattle.trellis.proofs.Step.{Closed}
use Rattle.trellis.proofs.Sharing.{Branch, Fits, shared}
use Rattle.trellis.proofs.Rows.{Changed, set_changed}
use Rattle.trellis.proofs.Table.{ways, Link, Stored, Covered, Table, Taken}
use Rattle.trellis.proofs.Relax.{From, Amid, Going, relax_going}
use Rattle.trellis.proofs.Between.{Between, Next, open_apart, between_next}

-- ---- closing

-- what closing row i makes of row k
record Shut (rows : List Row) (i k : ℕ) : Type 0 where
  within : k < length rows
  entry : entry_at (closed rows i) k ≡ entry_at rows k
  count : (row_at (closed rows i) k).count ≡ (row_at rows k).count
  parent : (row_at (closed rows i) k).parent ≡ (row_at rows k).parent
  input : (row_at (closed rows i) k).input ≡ (row_at rows k).input
  stays : (row_at rows k).closed ≡ true → (row_at (closed rows i) k).closed ≡ true
  chosen : (row_at (closed rows i) k).closed ≡ true → (k ≡ i) ⊎ ((row_at rows k).closed ≡ true)

-- every row is such a one
shut_row : (rows : List Row) (i k : ℕ) → i < length rows → k < length rows → Shut rows i k
shut_row rows i k h l = go (ℕ_discrete k i)
  where
    C : Changed rows (closed rows i) i (shut (row_at rows i))
    C = set_changed rows i (shut (row_at rows i)) h

    go : Dec (k ≡ i) → Shut rows i k
    go (yes e) =
        let q : row_at (closed rows i) k ≡ shut (row_at rows k) = ap (row_at (closed rows i)) e ∙ C.here ∙ ap (λ (u : ℕ). shut (row_at rows u)) (sym e) in
        record {
          within = l;
          entry = ap (λ (u : Row). u.entry) q;
          count = ap (λ (u : Row). u.count) q;
          parent = ap (λ (u : Row). u.parent) q;
          input = ap (λ (u : Row). u.input) q;
          stays = (λ c. ap (λ (u : Row). u.closed) q);
          chosen = (λ c. inl e);
        }
    go (no d) =
        let q : row_at (closed rows i) k ≡ row_at rows k = C.others k (omega (arith, C.longer)) d in
        record {
          within = l;
          entry = ap (λ (u : Row). u.entry) q;
          count = ap (λ (u : Row). u.count) q;
          parent = ap (λ (u : Row). u.parent) q;
          input = ap (λ (u : Row). u.input) q;
          stays = (λ c. ap (λ (u : Row). u.closed) q ∙ c);
          chosen = (λ c. inr (ap (λ (u : Row). u.closed) (sym q) ∙ c));
        }

module _ {t : Trellis} {cap room j i : ℕ} {rows : List Row} (inv : Between t cap room j rows) (h : i < length rows)
    (next : Next t cap j i rows) (off : node_at rows i ≡ terminal t → ⊥) where
  abbrev z : Entry
  z = entry_at rows i

  -- the rows are as many as before, and row i is closed
  at : (k : ℕ) → k < length (closed rows i) → Shut rows i k
  at k l = shut_row rows i k h (omega (arith, length-set rows i (shut (row_at rows i))))

  longer : (k : ℕ) → k < length rows → k < length (closed rows i)
  longer k l = omega (arith, length-set rows i (shut (row_at rows i)))

  own_shut : (row_at (closed rows i) i).closed ≡ true
  own_shut = ap (λ (u : Row). u.closed) (set_changed rows i (shut (row_at rows i)) h).here

  -- the closed nodes are the old ones and z
  old : {e : Entry} → e ∈ take j (ranked t) → e ∈ take (suc j) (ranked t)
  old m = rw next.grows (append_left (z ∷ []) m)

  last : z ∈ take (suc j) (ranked t)
  last = rw next.grows (append_right (take j (ranked t)) (here refl))

  split : (e : Entry) → e ∈ take (suc j) (ranked t) → (e ∈ take j (ranked t)) ⊎ (e ≡ z)
  split e m = go (append_out (take j (ranked t)) (rw next.grows at m))
    where
      go : (e ∈ take j (ranked t)) ⊎ (e ∈ (z ∷ [])) → (e ∈ take j (ranked t)) ⊎ (e ≡ z)
      go (inl k) = inl k
      go (inr k) = inr (singleton_out k)

  -- the table with row i closed
  table_closed : Table t cap (suc j) inv.taken (closed rows i)
  table_closed = record {
    some = longer 0 inv.table.some;
    first = (at 0 (longer 0 inv.table.some)).entry ∙ inv.table.first;
    linked = (λ k u l. linked' k u (at k l));
    once = (λ k l u v e. inv.table.once k l (at k u).within (at l v).within (cc (e, (at k u).entry, (at l v).entry)));
    shut = (λ k l c. shut' k (at k l) ((at k l).chosen c));
    stored = (λ e m. stored' e (split e m));
    reach = (λ f m. reach' (inv.table.reach f m));
    counted = (λ k l. let s = at k l in s.count ∙ inv.table.counted k s.within ∙ ap (λ (e : Entry). min cap (ways t inv.taken e)) (sym s.entry));
    ahead = (λ m. ahead' (split (priced t (terminal t)) m));
  }
    where
      linked' : (k : ℕ) → 0 < k → Shut rows i k → Link t (closed rows i) (row_at (closed rows i) k)
      linked' k u s =
          let o : Link t rows (row_at rows k) = inv.table.linked k u s.within in
          let v = at (row_at rows k).parent (longer (row_at rows k).parent o.within) in
          let e : entry_at (closed rows i) (row_at (closed rows i) k).parent ≡ entry_at rows (row_at rows k).parent =
          ap (λ (p : ℕ). entry_at (closed rows i) p) s.parent ∙ v.entry in
          record {
            within = omega (arith, longer (row_at rows k).parent o.within, s.parent);
            shut = ap (λ (p : ℕ). (row_at (closed rows i) p).closed) s.parent ∙ v.stays o.shut;
            fits = omega (arith, o.fits, s.input, ap (λ (x : Entry). allowed t x.node.level) e);
            comes = s.entry ∙ o.comes ∙ ap₂ (onto t) (sym e) (sym s.input);
          }

      shut' : (k : ℕ) → Shut rows i k → (k ≡ i) ⊎ ((row_at rows k).closed ≡ true) → entry_at (closed rows i) k ∈ take (suc j) (ranked t)
      shut' k s (inl e) = member_cast (s.entry ∙ ap (λ (u : ℕ). entry_at rows u) e) last
      shut' k s (inr c) = member_cast s.entry (old (inv.table.shut k s.within c))

      stored' : (e : Entry) → (e ∈ take j (ranked t)) ⊎ (e ≡ z) → Stored (closed rows i) e
      stored' e (inl m) =
          let s = inv.table.stored e m in
          let r = at s.row (longer s.row s.within) in
          record { row = s.row; within = longer s.row s.within; shut = r.stays s.shut; equal = r.entry ∙ s.equal }
      stored' e (inr q) = record { row = i; within = longer i h; shut = own_shut; equal = (at i (longer i h)).entry ∙ sym q }

      reach' : {e : Entry} → Covered rows e → Covered (closed rows i) e
      reach' s =
          let r : entry_at (closed rows i) s.row ≡ entry_at rows s.row = (at s.row (longer s.row s.within)).entry in
          record {
            row = s.row;
            within = longer s.row s.within;
            equal = ap (λ (u : Entry). u.node) r ∙ s.equal;
            small = omega (arith, ap (λ (u : Entry). u.cost) r, s.small);
          }

      ahead' : Closed t j (terminal t) ⊎ (priced t (terminal t) ≡ z) → ⊥
      ahead' (inl m) = inv.table.ahead m
      ahead' (inr e) = off (ap (λ (u : Entry). u.node) (sym e))

  -- its branches are pending
  pending : Taken t (suc j) (From z 0) inv.taken
  pending = record {
    once = inv.all.once;
    sources = (λ f m. old (inv.all.sources f m));
    fits = inv.all.fits;
    new = (λ f m p.
        open_apart inv i h next.live
        (member_cast (entry_path (sym (cost_computed next.known)) refl) (member_cast (sym p.0) (inv.all.sources f m))));
    full = (λ f m u. full' f u (split f.source m));
  }
    where
      pick : (f : Branch) → (f ∈ inv.taken) ⊎ ⊥ → (f ∈ inv.taken) ⊎ From z 0 f
      pick f (inl m) = inl m
      pick f (inr m) = absurd m

      full' : (f : Branch) → Fits t f → (f.source ∈ take j (ranked t)) ⊎ (f.source ≡ z) → (f ∈ inv.taken) ⊎ From z 0 f
      full' f u (inl m) = pick f (inv.all.full f m u)
      full' f u (inr e) = inr (e, omega arith)

  -- the step begins
  pub closed_amid : Amid t cap room (suc j) i z 0 (closed rows i)
  closed_amid =
      let s = at i (longer i h) in
      record {
        here = s.entry;
        taken = inv.taken;
        table = table_closed;
        all = subst (λ (e : Entry). Taken t (suc j) (From e 0) inv.taken) (sym s.entry) pending;
        within = longer i h;
        shut = own_shut;
        counted = s.count ∙ next.counted ∙ ap (λ (e : Entry). min cap (shared t e)) (sym s.entry);
        held = omega (arith, inv.held, length-set rows i (shut (row_at rows i)));
      }

-- ---- the branches

-- how they go on, where the next branch is known
module _ (t : Trellis) (cap room i left b : ℕ) (rows : List Row) where
  -- it had no room
  pub fan_full : (relax t cap room i b rows).full ≡ true → fan t cap room i (suc left) b rows ≡ relax t cap room i b rows
  unfolding fan onward
  fan_full e = rw (fan, onward, e)

  -- it had room
  pub fan_on : (relax t cap room i b rows).full ≡ false → fan t cap room i (suc left) b rows ≡ fan t cap room i left (suc b) (relax t cap room i b rows).rows
  unfolding fan onward
  fan_on e = rw (fan, onward, e)

-- all branches of z are taken
pub amid_end : {t : Trellis} {cap room j i : ℕ} {z : Entry} {b : ℕ} {rows : List Row} → Amid t cap room j i z b rows → allowed t z.node.level ≤ b
    → Between t cap room j rows
amid_end {t} {cap} {room} {j} {i} {z} {b} {rows} inv h = record {
  taken = inv.taken;
  table = inv.table;
  all = record {
    once = inv.all.once;
    sources = inv.all.sources;
    fits = inv.all.fits;
    new = (λ f m p. p);
    full = (λ f m u. inl (pick f u (inv.all.full f m u)));
  };
  held = inv.held;
}
  where
    pick : (f : Branch) → Fits t f → (f ∈ inv.taken) ⊎ From (entry_at rows i) b f → f ∈ inv.taken
    pick f u (inl m) = m
    pick f u (inr p) = absurd (omega (arith, u, p.1, ap (λ (e : Entry). allowed t e.node.level) (p.0 ∙ inv.here)))

-- going on after a try
onward_going : {P Q : List Row → Type 0} {S : Type 0} (rows : List Row) (full : Bool) (next : List Row → Tried)
    → Going P S (record { rows = rows; full = full })
    → ((after : List Row) → P after → Going Q S (next after)) → Going Q S (onward (record { rows = rows; full = full }) next)
unfolding onward
onward_going rows true next G f = record { went = (λ e. absurd (true≢false e)); stuck = (λ _. G.stuck refl) }
onward_going rows false next G f = f rows (G.went refl)

-- the branches from an input upwards
pub fan_going : {t : Trellis} {cap room j i : ℕ} {z : Entry} (left : ℕ) {b : ℕ} {rows : List Row}
    → Amid t cap room j i z b rows → left + b ≡ allowed t z.node.level
    → Going (Between t cap room j) (room < met t j) (fan t cap room i left b rows)
unfolding fan
fan_going zero inv e = record { went = (λ _. amid_end inv (omega arith)); stuck = (λ c. absurd (true≢false (sym c))) }
fan_going {t} {cap} {room} {i = i} (suc left) {b = b} {rows = rows} inv e =
    let r : Tried = relax t cap room i b rows in
    onward_going r.rows r.full (λ next. fan t cap room i left (suc b) next)
    (relax_going inv (omega (arith, ap (λ (x : Entry). allowed t x.node.level) inv.here)))
    (λ next m. fan_going left m (omega arith))

-- THE SEARCH'S STEP: the first open row, if it is not the terminal's, is closed and all of its branches are taken
pub expand_going : {t : Trellis} {cap room j i : ℕ} {rows : List Row}
    → Between t cap room j rows → i ≡ first_open rows → i < length rows → (node_at rows i ≡ terminal t → ⊥)
    → Going (Between t cap room (suc j)) (room < met t (suc j)) (expand t cap room i rows)
unfolding expand
expand_going {t} {i = i} {rows = rows} inv f h off =
    fan_going (allowed t (node_at rows i).level) (closed_amid inv h (between_next inv f h) off) (omega arith)
