-- Laws 7 and 8: the rows that a search leaves at the terminal, its row closed too, hold the honest sheet: the closed rows' entries are the
-- sheet's, each node once, so there are no more of them than rows. In which order they come is in Listing. Assumes nothing.
use mathlib.Core.Path.{◌≡◌, sym, ap, ◌∙◌}
use mathlib.Core.Logic.{◌⊎◌, inl, inr}
use mathlib.Core.List.{List, [], ◌∷◌, ◌++◌, map}
use mathlib.Core.Bool.{true, true≢false}
use Prim.Native.Nat.{ℕ, suc, ◌≤◌, ◌<◌}
use native.Mathlib.Decide.{ℕ_discrete}
use native.Mathlib.Omega.{arith}
use lib.ListN.{length, take, length-take, length-map}
use Rattle.lists.proofs.Membership.{◌∈◌, here, append_left, append_right, append_out, singleton_out, member_cast, map_in}
use Rattle.lists.proofs.Unique.{length_within}
use Rattle.lists.proofs.Places.{place_in}
use Rattle.trellis.specs.Trellis.{Trellis, terminal}
use Rattle.trellis.specs.Verdict.{Entry, entry, ranked, steps, met, least_metric}
use Rattle.trellis.specs.Sheet.{honest}
use Rattle.trellis.specs.Lawful.{Lawful}
use Rattle.trellis.specs.Search.{Row, no_row, row_at, entry_at, node_at, cost_at, first_open, shut, closed, found, Ended, searched}
use Rattle.trellis.proofs.Messages.{terminal_reached}
use Rattle.trellis.proofs.MetNodes.{front_unique, ranked_met, steps_few}
use Rattle.trellis.proofs.HonestRanked.{honest_front, front_honest, length_honest}
use Rattle.trellis.proofs.Rows.{Changed, set_changed}
use Rattle.trellis.proofs.Table.{Stored}
use Rattle.trellis.proofs.Between.{Between, between_next}
use Rattle.trellis.proofs.Found.{found_right}
use Rattle.trellis.proofs.Run.{Ending, no_room, at_terminal, out_of_room, out_of_steps, searched_ending}

-- the closed rows hold the sheet: each of its entries once, and nothing else; the origin has the first row
pub record Holds (sheet : List Entry) (rows : List Row) : Type 0 where
  pub some : 0 < length rows
  pub first : entry_at rows 0 ≡ entry 0 0 0
  pub once : (i k : ℕ) → i < length rows → k < length rows → node_at rows i ≡ node_at rows k → i ≡ k
  pub listed : (i : ℕ) → i < length rows → (row_at rows i).closed ≡ true → entry_at rows i ∈ sheet
  pub stored : (e : Entry) → e ∈ sheet → Stored rows e

module _ {t : Trellis} (law : Lawful t) {cap room j i : ℕ} {rows : List Row} (inv : Between t cap room j rows)
    (f : i ≡ first_open rows) (h : i < length rows) (e : node_at rows i ≡ terminal t) where
  abbrev after : List Row
  after = closed rows i

  C : Changed rows after i (shut (row_at rows i))
  C = set_changed rows i (shut (row_at rows i)) h

  -- a row keeps its entry
  entry_same : (k : ℕ) → k < length after → entry_at after k ≡ entry_at rows k
  entry_same k u = go (ℕ_discrete k i)
    where
      go : Dec (k ≡ i) → entry_at after k ≡ entry_at rows k
      go (yes q) = rw q (ap (λ (r : Row). r.entry) C.here)
      go (no d) = ap (λ (r : Row). r.entry) (C.others k u d)

  -- the first E + 1 ranked nodes
  grows : take (suc (steps t)) (ranked t) ≡ take j (ranked t) ++ (entry_at rows i ∷ [])
  grows = rw (found_right law inv f h e).ended (between_next inv f h).grows

  -- THE ROWS LEFT: with the terminal's row closed they hold the honest sheet of the least metric
  pub found_holds : Holds (honest t (least_metric t)) (closed rows i)
  found_holds = record {
    some = omega (arith, inv.table.some, C.longer);
    first = entry_same 0 (omega (arith, inv.table.some, C.longer)) ∙ inv.table.first;
    once = (λ k l u v q. inv.table.once k l (inside k u) (inside l v)
        (ap (λ (x : Entry). x.node) (sym (entry_same k u)) ∙ q ∙ ap (λ (x : Entry). x.node) (entry_same l v)));
    listed = (λ k u c. member_cast (entry_same k u) (front_honest law (entry_at rows k) (rw grows (listed' k u c (ℕ_discrete k i)))));
    stored = (λ x m. stored' x (append_out (take j (ranked t)) (rw grows at (honest_front law x m))));
  }
    where
      inside : (k : ℕ) → k < length after → k < length rows
      inside k u = go (ℕ_discrete k i)
        where
          go : Dec (k ≡ i) → k < length rows
          go (yes q) = omega arith
          go (no d) = C.older k u d

      listed' : (k : ℕ) → k < length after → (row_at after k).closed ≡ true → Dec (k ≡ i) → entry_at rows k ∈ (take j (ranked t) ++ (entry_at rows i ∷ []))
      listed' k u c (yes q) = append_right (take j (ranked t)) (here (ap (entry_at rows) q))
      listed' k u c (no d) =
          append_left (entry_at rows i ∷ []) (inv.table.shut k (C.older k u d) (ap (λ (r : Row). r.closed) (sym (C.others k u d)) ∙ c))

      stored' : (x : Entry) → (x ∈ take j (ranked t)) ⊎ (x ∈ (entry_at rows i ∷ [])) → Stored after x
      stored' x (inl m) = go (inv.table.stored x m)
        where
          apart : (s : Stored rows x) → s.row ≡ i → ⊥
          apart s q = true≢false (sym s.shut ∙ ap (λ (k : ℕ). (row_at rows k).closed) q ∙ (between_next inv f h).live)

          go : Stored rows x → Stored after x
          go s =
              let u : s.row < length after = omega (arith, s.within, C.longer) in
              record {
                row = s.row;
                within = u;
                shut = ap (λ (r : Row). r.closed) (C.others s.row u (apart s)) ∙ s.shut;
                equal = entry_same s.row u ∙ s.equal;
              }
      stored' x (inr m) = record {
        row = i;
        within = C.within;
        shut = ap (λ (r : Row). r.closed) C.here;
        equal = entry_same i C.within ∙ sym (singleton_out m);
      }

-- for the writer: the row of the terminal is the first open one, and closing it leaves the honest sheet in the rows
pub record Left (t : Trellis) (rows : List Row) (i : ℕ) : Type 0 where
  pub within : i < length rows
  pub first : i ≡ first_open rows
  pub holds : Holds (honest t (least_metric t)) (closed rows i)

-- so the search leaves it
pub searched_left : {t : Trellis} → Lawful t → (cap room allowance : ℕ) → 1 ≤ cap → (metric done count i : ℕ)
    → (searched t cap room allowance).outcome ≡ found metric done count i → Left t (searched t cap room allowance).rows i
searched_left {t} law cap room allowance one metric done count i = go (searched_ending law cap room allowance one)
  where
    go : {e : Ended} → Ending t cap room allowance e → e.outcome ≡ found metric done count i → Left t e.rows i
    go (no_room z e) p = let n : ◌≡◌ {A = ℕ} 0 1 = cc (e, p) in absurd (omega arith)
    go (at_terminal j k rows inv f h q l e) p =
        let w : found (cost_at rows k) j (row_at rows k).count k ≡ found metric done count i = ap (λ (x : Ended). x.outcome) (sym e) ∙ p in
        let m : k ≡ i = cc (w) in
        let r : rows ≡ _ = ap (λ (x : Ended). x.rows) (sym e) in
        rw (← r, ← m) (record { within = h; first = f; holds = found_holds law inv f h q })
    go (out_of_room j rows h k r q e) p = let n : ◌≡◌ {A = ℕ} 0 1 = cc (e, p) in absurd (omega arith)
    go (out_of_steps rows h r e) p = let n : ◌≡◌ {A = ℕ} 0 1 = cc (e, p) in absurd (omega arith)

-- ---- how many

-- each entry has a row of its own
pub length_holds : {t : Trellis} → Lawful t → {rows : List Row} → Holds (honest t (least_metric t)) rows → suc (steps t) ≤ length rows
length_holds {t} law {rows} H =
    let front : List Entry = take (suc (steps t)) (ranked t) in
    let entries : List Entry = map (λ r. r.entry) rows in
    let n : length front ≤ length entries =
    length_within front entries (front_unique t (suc (steps t))) (λ e k.
    let s = H.stored e (front_honest law e k) in
    member_cast (sym s.equal) (map_in (λ (r : Row). r.entry) (place_in no_row rows s.row s.within))) in
    omega (arith, length-take (suc (steps t)) (ranked t), steps_few t (terminal_reached law), length-map rows (λ (r : Row). r.entry))

-- so where a decode answers, the honest sheet has no more entries than there is room
pub length_answered : {t : Trellis} → Lawful t → (room : ℕ) → met t (steps t) ≤ room → length (honest t (least_metric t)) ≤ room
length_answered {t} law room h = omega (arith, length_honest law, ranked_met t (steps t) (steps_few t (terminal_reached law)))
