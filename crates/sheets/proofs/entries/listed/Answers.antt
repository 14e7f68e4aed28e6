-- `entries::listed` meets its contract: nodes that rise are found by halving, and the entry that was found is the node's. Assumes
-- nothing.
use mathlib.Core.Path.{◌≡◌, sym, ap, ◌∙◌, subst₂}
use mathlib.Core.Logic.{inl, inr}
use mathlib.Core.List.{List, []}
use mathlib.Core.Bool.{true}
use Prim.Native.Nat.{ℕ, ◌≤◌, ◌<◌}
use native.Mathlib.Decide.{dec_lt}
use native.Mathlib.Omega.{arith}
use lib.Dec.{T}
use lib.ListN.{length, get_or}
use Rattle.std.proofs.Common.{rules, Some, None, Result, Ok, Err}
use Rattle.std.specs.Option.{option_map}
use Rattle.std.specs.Result.{result_ok}
use Rattle.std.specs.Ordering.{nat_cmp, ordering_then, ordering_index}
use Rattle.std.specs.declared.cmp.Ordering.{Ordering}
use Rattle.std.specs.declared.cmp.Ordering.TheVariants.{Equal}
use Rattle.std.specs.List.Sorted.{IsNonDecreasingBy, IsSearchInRange, IsBinarySearchResult}
use Rattle.std.proofs.lemmas.Bool.Decides.{nat_tests}
use Rattle.std.proofs.lemmas.List.Sorted.{answers_always, IsNonDecreasingBy-from_default}
use Rattle.lists.proofs.Tests.{true_in}
use Rattle.lists.proofs.Places.{place_in, sorted_places}
use Rattle.lists.proofs.Sorted.{Sorted}
use Rattle.trellis.specs.Trellis.{Node, node}
use Rattle.trellis.specs.Verdict.{Entry}
use Rattle.trellis.proofs.Paths.{node_path}
use Rattle.trellis.proofs.Order.{Earlier, earlier_out}
use Rattle.trellis.proofs.Honest.{lower}
use Rattle.trellis.proofs.Listing.{no_entry}
use Rattle.sheets.specs.declared.entries.Node as key
use Rattle.sheets.specs.Bytes.{entry_at}
use Rattle.sheets.specs.Checking.{rising}
use Rattle.sheets.specs.Work.{entries_in, entry_said, listed_cost}
use Rattle.sheets.proofs.Listing.{length_entries_in, entries_in_at, rising_test}
use Rattle.sheets.proofs.Costs.{listed_one, listed_none}
use Rattle.sheets.proofs.entries.listed.Goals as goal

-- ---- the order of nodes as they are compared

abbrev node_order : key.Node → key.Node → Ordering
node_order x y = ordering_then (nat_cmp x.level y.level) (nat_cmp x.state y.state)

-- only a node itself is equal to it
same_level : (a b c d : ℕ) → ordering_then (nat_cmp a c) (nat_cmp b d) ≡ Equal → a ≡ c
same_level a b c d e = grind (arith, nat_tests)

same_state : (a b c d : ℕ) → ordering_then (nat_cmp a c) (nat_cmp b d) ≡ Equal → b ≡ d
same_state a b c d e = grind (arith, nat_tests)

same_order : (a b c d : ℕ) → a ≡ c → b ≡ d → ordering_then (nat_cmp a c) (nat_cmp b d) ≡ Equal
same_order a b c d e f = grind (arith, nat_tests)

-- an earlier node is no greater
rises : (a b c d l s : ℕ) → Earlier (node a b) (node c d)
    → ordering_index (ordering_then (nat_cmp a l) (nat_cmp b s)) ≤ ordering_index (ordering_then (nat_cmp c l) (nat_cmp d s))
rises a b c d l s (inl h) = grind (arith, nat_tests)
rises a b c d l s (inr h) = let e = h.0 in let k = h.1 in grind (arith, nat_tests)

module _ (chunks : List (List ℕ)) (ordered : rising (entries_in chunks) ≡ true) (x : key.Node) where
  sorted : Sorted lower (entries_in chunks)
  sorted = (rising_test (entries_in chunks)).out (true_in (rising (entries_in chunks)) ordered)

  -- the comparisons rise, as a search by halving asks
  comparisons_rise : IsNonDecreasingBy (λ b. ordering_index (node_order (entry_said b).node x)) chunks
  comparisons_rise = IsNonDecreasingBy-from_default (λ b. ordering_index (node_order (entry_said b).node x)) chunks [] (λ i j le h. go i j le h (dec_lt i j))
    where
      go : (i j : ℕ) → i ≤ j → j < length chunks → Dec (i < j) → ordering_index (node_order (entry_said (get_or chunks i [])).node x) ≤ ordering_index (node_order (entry_said (get_or chunks j [])).node x)
      go i j le h (yes l) =
          rises _ _ _ _ x.level x.state (earlier_out _ _
          (subst₂ (λ (e f : Entry). T (lower e f)) (entries_in_at chunks i) (entries_in_at chunks j)
          (sorted_places no_entry lower (entries_in chunks) sorted i j l (omega (arith, length_entries_in chunks)))))
      go i j le h (no n) =
          let e : i ≡ j = omega arith in
          let q = ap (λ (k : ℕ). ordering_index (node_order (entry_said (get_or chunks k [])).node x)) e in omega (arith, q)

  -- what was found, or not, is the node's
  searched : (r : Result ℕ ℕ) → IsSearchInRange r (length chunks) → IsBinarySearchResult (λ b. node_order (entry_said b).node x) chunks r
      → option_map (λ i. (entry_said (get_or chunks i [])).cost) (result_ok r) ≡ listed_cost (entries_in chunks) (node x.level x.state)
  searched (Ok i) within found =
      let said = entry_at (get_or chunks i []) 0 in
      let own : said.node ≡ node x.level x.state = node_path (same_level _ _ x.level x.state (found [])) (same_state _ _ x.level x.state (found [])) in
      sym (sym (ap (listed_cost (entries_in chunks)) (ap (λ (e : Entry). e.node) (entries_in_at chunks i) ∙ own))
      ∙ listed_one (entries_in chunks) sorted (place_in no_entry (entries_in chunks) i (omega (arith, length_entries_in chunks, within)))
      ∙ ap (λ (e : Entry). Some e.cost) (entries_in_at chunks i))
  searched (Err i) within parted =
      sym (listed_none (entries_in chunks) no_entry (node x.level x.state) (λ k h e. apart k (omega (arith, h, length_entries_in chunks))
      (sym (ap (λ (f : Entry). f.node) (entries_in_at chunks k)) ∙ e) (dec_lt k i)))
    where
      apart : (k : ℕ) → k < length chunks → (entry_at (get_or chunks k []) 0).node ≡ node x.level x.state → Dec (k < i) → ⊥
      apart k h e d =
          let equal : node_order (entry_said (get_or chunks k [])).node x ≡ Equal =
          same_order _ _ x.level x.state (ap (λ (n : Node). n.level) e) (ap (λ (n : Node). n.state) e) in
          go d equal
        where
          go : Dec (k < i) → node_order (entry_said (get_or chunks k [])).node x ≡ Equal → ⊥
          go (yes l) equal = let less = (parted comparisons_rise).0 k [] (omega arith) l in let z : ◌≡◌ {A = ℕ} 0 1 = cc (equal, less) in omega arith
          go (no n) equal = let great = (parted comparisons_rise).1 k [] (omega arith) h in let z : ◌≡◌ {A = ℕ} 0 1 = cc (equal, great) in omega arith

pub returns-in_err-place : goal.returns-in_err-place
returns-in_err-place c =
    let by = c.binary_search_by_key.ensures in
    let found = searched c.args.entries.now c.requires c.args.sought c.binary_search_by_key.result by.bound
    (by.position (λ b. (entry_said b).node) (answers_always _ _ _ (λ f a r g called. search rules))) in
    let none : result_ok c.binary_search_by_key.result ≡ None = sym c.ok.ensures.value ∙ c.in_err-place.was in
    c.from_residual.ensures ∙ ap (option_map (λ i. (entry_said (get_or c.args.entries.now i [])).cost)) (sym none) ∙ found

pub returns : goal.returns
returns c =
    let by = c.binary_search_by_key.ensures in
    let found = searched c.args.entries.now c.requires c.args.sought c.binary_search_by_key.result by.bound
    (by.position (λ b. (entry_said b).node) (answers_always _ _ _ (λ f a r g called. search rules))) in
    let place : result_ok c.binary_search_by_key.result ≡ Some c.in_ok-place.place = sym c.ok.ensures.value ∙ c.in_ok-place.was in
    ap (λ e. Some e.cost) c.read.ensures ∙ ap (option_map (λ i. (entry_said (get_or c.args.entries.now i [])).cost)) (sym place) ∙ found
