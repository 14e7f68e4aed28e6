-- A to D as the check tests them: each node of the path listed at its metric, the last metric M, and two tests of every branch of
-- every entry. A is C at the origin. Together they are `carries`. Assumes nothing.
use mathlib.Core.Path.{◌≡◌, refl, sym, ap, ◌∙◌, subst₂}
use mathlib.Core.List.{List, []}
use mathlib.Core.Bool.{Bool, true}
use Prim.Native.Nat.{ℕ, zero, suc, ◌+◌, ◌≤◌, ◌<◌}
use native.Mathlib.Nat.{suc_inj}
use native.Mathlib.Numerals.{add-one}
use native.Mathlib.Decide.{dec_le}
use native.Mathlib.Omega.{arith}
use borrow.Author.Tests.{lt-ltb, le-ltb}
use lib.ListN.{length, get_or}
use Rattle.lists.specs.Lists.{all}
use Rattle.lists.proofs.Tests.{true_in}
use Rattle.lists.proofs.Membership.{◌∈◌, Every}
use Rattle.lists.proofs.Sorted.{Sorted}
use Rattle.lists.proofs.Decides.{Decides, said, together, whenever, equal, less, agree}
use Rattle.trellis.specs.Trellis.{Trellis, Path, Node, node, top, ends, along, metric, end_node}
use Rattle.trellis.specs.Verdict.{Entry, path_of, onto}
use Rattle.trellis.specs.Sheet.{carries}
use Rattle.trellis.proofs.Paths.{node_path, allowed_top}
use Rattle.trellis.proofs.Honest.{lower}
use Rattle.trellis.proofs.Order.{mark}
use Rattle.trellis.proofs.SheetTests.{Listed, AllBranches, Onward, Dearer, Clear, branches_test, carries_test}
use Rattle.trellis.proofs.Parts.{parts}
use Rattle.blocks.specs.Machines.{trellis_under}
use Rattle.blocks.specs.Walks.{early, visit_at, Walked}
use Rattle.blocks.specs.declared.block.Block.{Block}
use Rattle.blocks.specs.declared.walk.Visit.{Visit}
use Rattle.blocks.proofs.Walks.{length_early}
use Rattle.blocks.proofs.Early.{early_path, parts_early, every_part}
use Rattle.blocks.proofs.Asked.{input_below, block_span, entered, bit_input}
use Rattle.sheets.specs.Bytes.{series, bit_at, sheet_read}
use Rattle.sheets.specs.Checking.{rising, carried}
use Rattle.sheets.specs.Work.{on_path, goes_on, all_passing, passes}
use Rattle.sheets.proofs.Series.{length_series}
use Rattle.sheets.proofs.Octets.{bits_read}
use Rattle.sheets.proofs.Listing.{rising_test}
use Rattle.sheets.proofs.Costs.{equal_cost, within_cost}

-- a test of f 0, f 1, .., each by itself
all_series : {A : Type 0} (p : A → Bool) (P : ℕ → Type 0) (n : ℕ) (f : ℕ → A) → ((j : ℕ) → j < n → Decides (p (f j)) (P j))
    → Decides (all p (series n f)) ((j : ℕ) → j < n → P j)
unfolding all series
all_series p P zero f d = record { out = (λ h j k. absurd (omega arith)); into = (λ h. tt) }
all_series p P (suc n) f d =
    said (together (d 0 (omega arith)) (all_series p (λ j. P (suc j)) n (λ i. f (suc i)) (λ j k. d (suc j) (omega arith))))
    (λ h j k. first h.0 h.1 j k) (λ h. (h 0 (omega arith), λ j k. h (suc j) (omega arith)))
  where
    first : P 0 → ((j : ℕ) → j < n → P (suc j)) → (j : ℕ) → j < suc n → P j
    first h k zero l = h
    first h k (suc j) l = k j (omega arith)

-- B for what a branch brings
goes_on_test : (es : List Entry) → Sorted lower es → (m : ℕ) (a : Entry) → Decides (goes_on es m a) (a.cost ≤ m → Listed es a.node a.cost)
goes_on_test es s m a = go (dec_le a.cost m)
  where
    go : Dec (a.cost ≤ m) → Decides (goes_on es m a) (a.cost ≤ m → Listed es a.node a.cost)
    go (yes h) = rw (le-ltb m a.cost h) (said (within_cost es s a.node a.cost) (λ l k. l) (λ l. l h))
    go (no n) = rw (lt-ltb m a.cost (omega arith)) (record { out = (λ t h. absurd (n h)); into = (λ h. tt) })

-- What the tests rest on: rising entries, a message of the block's length, and its path.
record Claim (block : Block) (es : List Entry) (w : List ℕ) (path : List Visit) : Type 0 where
  ordered : Sorted lower es
  inputs : (i : ℕ) → get_or w i 0 < (trellis_under block).inputs
  size : length w ≡ (trellis_under block).span
  walked : Walked (trellis_under block) w (top (trellis_under block)) path

module _ (block : Block) (es : List Entry) (m : ℕ) (w : List ℕ) (path : List Visit) (k : Claim block es w path) where
  abbrev t : Trellis
  t = trellis_under block

  abbrev own : Path
  own = early w (top t)

  -- C: at each level the path's node is listed, its cost the metric so far
  path_test : Decides (all (on_path es path) (series (top t + 1) (λ j. j))) (Every (λ p. mark t p ∈ es) (parts own))
  path_test =
      said (all_series (on_path es path) (λ j. mark t (early w j) ∈ es) (top t + 1) (λ j. j) (λ j h. level_test j (omega arith)))
      (λ h. every_part (λ p. mark t p ∈ es) w (top t) (λ j h'. h j (omega arith)))
      (λ h j h'. h (early w j) (parts_early w (top t) j (omega arith)))
    where
      level_test : (j : ℕ) → j ≤ top t → Decides (on_path es path j) (mark t (early w j) ∈ es)
      level_test j h =
          let here : (visit_at path j).metric ≡ metric t (early w j) = k.walked.metric_at j h in
          let there : node j (visit_at path j).state ≡ end_node t (early w j) = node_path (sym (length_early w j)) (k.walked.state_at j h) in
          subst₂ (λ (y : Node) (d : ℕ). Decides (on_path es path j) (record { cost = d; node = y } ∈ es)) there here
          (equal_cost es k.ordered (node j (visit_at path j).state) (visit_at path j).metric)

  -- the place behind a level
  next_place : (part : Visit → ℕ) {x i : ℕ} → x ≡ i → part (visit_at path (x + 1)) ≡ part (visit_at path (suc i))
  next_place part {x} {i} e = ap (λ (j : ℕ). part (visit_at path (j + 1))) e ∙ ap (λ (j : ℕ). part (visit_at path j)) (add-one i)

  -- D, at one branch
  abbrev Apart : Entry → ℕ → Type 0
  Apart e b = (onto t e b).node.state ≡ (visit_at path (e.node.level + 1)).state → ¬ (e.node.state ≡ (visit_at path e.node.level).state)
      → (visit_at path (e.node.level + 1)).metric < (onto t e b).cost

  -- B and D: both tests of every branch
  entries_test : Decides (all (all_passing t es m path) es) (AllBranches t es (λ e b. Onward t m es e b × Apart e b))
  unfolding all_passing
  entries_test =
      branches_test t es (λ e b. together (goes_on_test es k.ordered m (onto t e b))
      (whenever (equal (onto t e b).node.state ((visit_at path (e.node.level + 1)).state)) (equal e.node.state ((visit_at path e.node.level).state))
      (less ((visit_at path (e.node.level + 1)).metric) (onto t e b).cost)))

  -- D, level by level
  clear_out : AllBranches t es Apart → Every (Clear t es) (parts own)
  unfolding early ends
  clear_out h = every_part (Clear t es) w (top t) go
    where
      step : (i : ℕ) → suc i ≤ top t → AllBranches t es (Dearer t (get_or w i 0) (early w i))
      step i le e member b u enters apart =
          let level : e.node.level ≡ i = suc_inj (ap (λ (x : Node). x.level) enters) ∙ length_early w i in
          let before : (visit_at path e.node.level).state ≡ ends t (early w i) = ap (λ (x : ℕ). (visit_at path x).state) level ∙ k.walked.state_at i (omega arith) in
          let after : (visit_at path (e.node.level + 1)).state ≡ ends t (early w (suc i)) = next_place (λ v. v.state) level ∙ k.walked.state_at (suc i) le in
          let paid : (visit_at path (e.node.level + 1)).metric ≡ metric t (early w (suc i)) = next_place (λ v. v.metric) level ∙ k.walked.metric_at (suc i) le in
          let state : (onto t e b).node.state ≡ ends t (early w (suc i)) = ap (λ (x : Node). x.state) enters in
          let same_input : e.node.state ≡ ends t (early w i) → b ≡ get_or w i 0 =
          λ q. entered block e.node.state b (get_or w i 0) (input_below block e.node.level b u) (k.inputs i)
          (state ∙ ap (λ (x : ℕ). t.next x (get_or w i 0)) (sym q)) in
          omega (arith, h e member b u (state ∙ sym after) (λ q. apart (q ∙ before, same_input (q ∙ before))))

      go : (j : ℕ) → j ≤ top t → Clear t es (early w j)
      go zero le = tt
      go (suc i) le = step i le

  -- and back
  clear_in : Every (Clear t es) (parts own) → AllBranches t es Apart
  unfolding early
  clear_in h e member b u enters apart =
      let i : ℕ = e.node.level in
      let left : i < top t = allowed_top t i b u in
      let before : (visit_at path i).state ≡ ends t (early w i) = k.walked.state_at i (omega arith) in
      let after : (visit_at path (i + 1)).state ≡ ends t (early w (suc i)) = next_place (λ v. v.state) refl ∙ k.walked.state_at (suc i) left in
      let paid : (visit_at path (i + 1)).metric ≡ metric t (early w (suc i)) = next_place (λ v. v.metric) refl ∙ k.walked.metric_at (suc i) left in
      omega (
        arith,
        h (early w (suc i)) (parts_early w (top t) (suc i) left) e member b u
            (node_path (ap suc (sym (length_early w i))) (enters ∙ after)) (λ q. apart (q.0 ∙ sym before)),
      )

  -- For the check: its tests are the conditions.
  claim_tests : carries t m es (path_of t w) ≡ passes t es m path
  unfolding passes early ends along
  claim_tests =
      ap (carries t m es) (sym (early_path t w k.size))
      ∙ agree (carries_test t m es own)
      (said (together (together path_test (equal ((visit_at path (top t)).metric) m)) entries_test)
      (λ h. record {
        begun = h.0.0 [] (parts_early w (top t) 0 (omega arith));
        onward = (λ e x b u. (h.1 e x b u).0);
        listed = h.0.0;
        paid = sym whole ∙ h.0.1;
        clear = clear_out (λ e x b u. (h.1 e x b u).1);
      })
      (λ q. ((q.listed, whole ∙ q.paid), λ e x b u. (q.onward e x b u, clear_in q.clear e x b u))))
    where
      whole : (visit_at path (top t)).metric ≡ metric t own
      whole = k.walked.metric_at (top t) (omega arith)

-- The same for a sheet of good form that was read off bytes.
pub carried_tests : (block : Block) (bytes : List ℕ) (path : List Visit) → let s = sheet_read block.bits bytes in rising s.entries ≡ true
    → Walked (trellis_under block) s.message (top (trellis_under block)) path
    → carried (trellis_under block) s ≡ passes (trellis_under block) s.entries s.metric path
unfolding carried sheet_read
carried_tests block bytes path r w =
    let s = sheet_read block.bits bytes in
    claim_tests block s.entries s.metric s.message path (record {
      ordered = (rising_test s.entries).out (true_in (rising s.entries) r);
      inputs = (λ i. bit_input block (get_or s.message i 0) (bits_read bytes block.bits i));
      size = length_series block.bits (bit_at bytes) ∙ sym (block_span block);
      walked = w;
    })
