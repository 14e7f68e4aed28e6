-- Laws 7 and 8: the sheet's entries as next_closed finds their rows one after another, from the origin's row on: a loop that writes a sheet
-- by the place d of the entry and the row k that holds it. Assumes nothing.
use mathlib.Core.Path.{◌≡◌, sym, ap, ◌∙◌, subst}
use mathlib.Core.Logic.{◌⊎◌, inl, inr}
use mathlib.Core.List.{List}
use Prim.Native.Nat.{ℕ, zero, suc, ◌<◌}
use native.Mathlib.Omega.{arith}
use lib.Dec.{T}
use lib.ListN.{length, get_or}
use Rattle.lists.proofs.Membership.{◌∈◌}
use Rattle.lists.proofs.Lexicographic.{compared}
use Rattle.lists.proofs.Sorted.{Sorted}
use Rattle.lists.proofs.Places.{Place, place_out, place_in, sorted_places}
use Rattle.trellis.specs.Trellis.{Trellis, Node, origin}
use Rattle.trellis.specs.Verdict.{Entry, entry, earlier}
use Rattle.trellis.specs.Sheet.{honest}
use Rattle.trellis.specs.Search.{Row, entry_at, node_at, next_closed}
use Rattle.trellis.proofs.Cost.{cost_origin}
use Rattle.trellis.proofs.Order.{Earlier, earlier_out, earlier_order}
use Rattle.trellis.proofs.Honest.{lower, honest_in, honest_sorted}
use Rattle.trellis.proofs.Table.{Stored}
use Rattle.trellis.proofs.Scan.{Following, next_closed_is}
use Rattle.trellis.proofs.HonestRows.{Holds}

-- what stands behind a sheet's last entry; it is never read
abbrev pub no_entry : Entry
no_entry = entry 0 0 0

-- entry d of a sheet
abbrev pub entry_of : List Entry → ℕ → Entry
entry_of sheet d = get_or sheet d no_entry

-- the order of nodes that are given in another way
earlier_cast : {a b x y : Node} → x ≡ a → y ≡ b → T (earlier a b) → T (earlier x y)
earlier_cast {a} {b} {x} {y} p q h = subst (λ (u : Node). T (earlier u y)) (sym p) (subst (λ (u : Node). T (earlier a u)) (sym q) h)

-- row k holds the sheet's entry d, where there is one
pub record Listing (sheet : List Entry) (rows : List Row) (d k : ℕ) : Type 0 where
  pub within : d < length sheet → k < length rows
  pub equal : d < length sheet → entry_at rows k ≡ entry_of sheet d

module _ {sheet : List Entry} {rows : List Row} (H : Holds sheet rows) (sorted : Sorted lower sheet) where
  -- so do those of this sheet
  rises : (i k : ℕ) → i < k → k < length sheet → T (lower (entry_of sheet i) (entry_of sheet k))
  rises i k h l = sorted_places no_entry lower sheet sorted i k h l

  -- no later than itself
  lower_never : (x y : Entry) → T (lower x y) → T (lower y x) → ⊥
  lower_never x y h k = earlier_order.irrefl x.node (earlier_order.trans x.node y.node x.node h k)

  -- an entry's place by the order alone
  place_after : (i d : ℕ) → i < length sheet → d < length sheet → T (lower (entry_of sheet d) (entry_of sheet i)) → d < i
  place_after i d u v b = go (compared d i)
    where
      go : (d < i) ⊎ ((d ≡ i) ⊎ (i < d)) → d < i
      go (inl l) = l
      go (inr (inl q)) = absurd (earlier_order.irrefl (entry_of sheet i).node (subst (λ (n : ℕ). T (lower (entry_of sheet n) (entry_of sheet i))) q b))
      go (inr (inr l)) = absurd (lower_never (entry_of sheet d) (entry_of sheet i) b (rises i d l v))

  -- the origin is the sheet's first entry, and has the first row
  pub listing_start : entry 0 0 0 ∈ sheet → Listing sheet rows 0 0
  listing_start m = record { within = (λ u. H.some); equal = (λ u. H.first ∙ sym (go u (place_out no_entry sheet m))) }
    where
      never : Earlier (entry_of sheet 0).node origin → ⊥
      never (inl l) = omega arith
      never (inr l) = omega (arith, l.1)

      go : 0 < length sheet → Place no_entry sheet (entry 0 0 0) → entry_of sheet 0 ≡ entry 0 0 0
      go u p = at p.index p.within p.equal
        where
          at : (n : ℕ) → n < length sheet → entry_of sheet n ≡ entry 0 0 0 → entry_of sheet 0 ≡ entry 0 0 0
          at zero v q = q
          at (suc n) v q =
              let h : T (earlier (entry_of sheet 0).node origin) =
              subst (λ (x : Entry). T (lower (entry_of sheet 0) x)) q (rises 0 (suc n) (omega arith) v) in
              absurd (never (earlier_out (entry_of sheet 0).node origin h))

  -- THE NEXT ENTRY has the row that next_closed finds
  pub listing_next : {d k : ℕ} → Listing sheet rows d k → d < length sheet → Listing sheet rows (suc d) (next_closed (node_at rows k) rows)
  listing_next {d} {k} listing u = record { within = inside; equal = same }
    where
      x : Node
      x = node_at rows k

      n : ℕ
      n = next_closed x rows

      F : Following x rows n
      F = next_closed_is x rows

      own : x ≡ (entry_of sheet d).node
      own = ap (λ (y : Entry). y.node) (listing.equal u)

      -- the row of the next entry
      due : suc d < length sheet → Stored rows (entry_of sheet (suc d))
      due v = H.stored (entry_of sheet (suc d)) (place_in no_entry sheet (suc d) v)

      comes : (v : suc d < length sheet) → T (earlier x (node_at rows (due v).row))
      comes v = earlier_cast own (ap (λ (y : Entry). y.node) (due v).equal) (rises d (suc d) (omega arith) v)

      inside : suc d < length sheet → n < length rows
      inside v = F.some (due v).row (due v).within ((due v).shut, comes v)

      same : suc d < length sheet → entry_at rows n ≡ entry_of sheet (suc d)
      same v = go (place_out no_entry sheet (H.listed n (inside v) (F.here (inside v)).0))
        where
          go : Place no_entry sheet (entry_at rows n) → entry_at rows n ≡ entry_of sheet (suc d)
          go p = pick (compared (suc d) p.index)
            where
              above : d < p.index
              above = place_after p.index d p.within u (earlier_cast (sym own) (ap (λ (y : Entry). y.node) p.equal) (F.here (inside v)).1)

              pick : (suc d < p.index) ⊎ ((suc d ≡ p.index) ⊎ (p.index < suc d)) → entry_at rows n ≡ entry_of sheet (suc d)
              pick (inl l) =
                  let own : node_at rows (due v).row ≡ (entry_of sheet (suc d)).node = ap (λ (y : Entry). y.node) (due v).equal in
                  let other : node_at rows n ≡ (entry_of sheet p.index).node = ap (λ (y : Entry). y.node) (sym p.equal) in
                  absurd (F.least (due v).row (due v).within ((due v).shut, comes v) (earlier_cast own other (rises (suc d) p.index l p.within)))
              pick (inr (inl q)) = sym p.equal ∙ ap (entry_of sheet) (sym q)
              pick (inr (inr l)) = absurd (omega (arith, above))

-- ---- the honest sheet

module _ (t : Trellis) (m : ℕ) {rows : List Row} (H : Holds (honest t m) rows) where
  -- its first entry is the origin's
  pub honest_start : Listing (honest t m) rows 0 0
  honest_start = listing_start H (honest_sorted t m) (honest_in t m (record { priced = cost_origin t; within = omega arith }))

  -- and each next one has the row that next_closed finds
  pub honest_next : {d k : ℕ} → Listing (honest t m) rows d k → d < length (honest t m)
      → Listing (honest t m) rows (suc d) (next_closed (node_at rows k) rows)
  honest_next listing u = listing_next H (honest_sorted t m) listing u
