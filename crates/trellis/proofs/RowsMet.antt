-- For law 8: the rows are nodes that the closed nodes lead to, none twice: no more than D(j), and just D(j) once all branches are taken.
-- Assumes nothing.
use mathlib.Core.Path.{◌≡◌, sym, ap, ◌∙◌}
use mathlib.Core.Logic.{◌⊎◌, inl, inr}
use mathlib.Core.List.{List, ◌∷◌, map}
use Prim.Native.Nat.{ℕ, zero, suc, ◌≤◌, ◌<◌}
use native.Mathlib.Omega.{arith}
use lib.ListN.{length, length-map}
use Rattle.lists.proofs.Membership.{◌∈◌, here, further, member_cast, Within, map_in, map_out, Mapped}
use Rattle.lists.proofs.Unique.{Unique}
use Rattle.lists.proofs.Places.{place_out, place_in, places_unique}
use Rattle.trellis.specs.Trellis.{Trellis, Node, origin}
use Rattle.trellis.specs.Verdict.{Entry, met}
use Rattle.trellis.specs.Search.{Row, no_row, row_at, entry_at}
use Rattle.trellis.proofs.MetNodes.{met_nodes, Met, met_in, met_out, length_some_met, length_all_met}
use Rattle.trellis.proofs.Sharing.{Branch, branch, lands}
use Rattle.trellis.proofs.Table.{Link, Table, Covered, Taken}

-- the node of a row
abbrev pub node_of : Row → Node
node_of r = r.entry.node

module _ {t : Trellis} {cap j : ℕ} {taken : List Branch} {rows : List Row} (inv : Table t cap j taken rows) where
  -- none twice, so they can be counted
  pub nodes_unique : Unique (map node_of rows)
  nodes_unique = places_unique no_row node_of rows inv.once

  -- each of them is met
  row_met : (i : ℕ) → i < length rows → node_of (row_at rows i) ∈ met_nodes t j
  row_met zero h = here (ap (λ (e : Entry). e.node) inv.first)
  row_met (suc i) h =
      let k : Link t rows (row_at rows (suc i)) = inv.linked (suc i) (omega arith) h in
      met_in t j (node_of (row_at rows (suc i)))
      (record {
        source = entry_at rows (row_at rows (suc i)).parent;
        input = (row_at rows (suc i)).input;
        member = inv.shut (row_at rows (suc i)).parent k.within k.shut;
        fits = k.fits;
        equal = ap (λ (e : Entry). e.node) k.comes;
      })

  -- so all of them are
  nodes_met : Within (map node_of rows) (met_nodes t j)
  nodes_met x m = go (map_out node_of rows m)
    where
      go : Mapped node_of rows x → x ∈ met_nodes t j
      go r = let p = place_out no_row rows r.member in member_cast (r.equal ∙ ap node_of (sym p.equal)) (row_met p.index p.within)

  -- a node met that has no row: D(j) is more than the rows
  pub rows_short : (x : Node) → x ∈ met_nodes t j → ((i : ℕ) → i < length rows → node_of (row_at rows i) ≡ x → ⊥) → length rows < met t j
  rows_short x m none =
      let h : length (x ∷ map node_of rows) ≤ met t j = length_some_met t j (x ∷ map node_of rows) ((λ k. new (map_out node_of rows k)), nodes_unique) met' in
      omega (arith, length-map rows node_of)
    where
      new : Mapped node_of rows x → ⊥
      new r = let p = place_out no_row rows r.member in none p.index p.within (ap node_of p.equal ∙ sym r.equal)

      met' : Within (x ∷ map node_of rows) (met_nodes t j)
      met' y (here e) = member_cast e m
      met' y (further k) = nodes_met y k

  -- all branches taken: the rows are D(j)
  pub rows_met : Taken t j (λ f. ⊥) taken → length rows ≡ met t j
  rows_met all = sym (length-map rows node_of) ∙ length_all_met t j (map node_of rows) nodes_unique nodes_met (λ x m. go x (met_out t j x m))
    where
      at : (i : ℕ) (x : Node) → i < length rows → node_of (row_at rows i) ≡ x → x ∈ map node_of rows
      at i x h e = member_cast (sym e) (map_in node_of (place_in no_row rows i h))

      pick : (f : Branch) → (f ∈ taken) ⊎ ⊥ → Covered rows (lands t f)
      pick f (inl m) = inv.reach f m
      pick f (inr m) = absurd m

      go : (x : Node) → (x ≡ origin) ⊎ Met t j x → x ∈ map node_of rows
      go x (inl e) = at 0 x inv.some (ap (λ (u : Entry). u.node) inv.first ∙ sym e)
      go x (inr m) =
          let f : Branch = branch m.source m.input in
          let s = pick f (all.full f m.member m.fits) in
          at s.row x s.within (s.equal ∙ sym m.equal)
