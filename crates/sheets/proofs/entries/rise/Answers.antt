-- `entries::rise` meets its contract: the chain's test of neighbours is the definition's. Assumes nothing.
use mathlib.Core.Path.{◌≡◌, sym, ap, ap₂, ◌∙◌, subst}
use mathlib.Core.List.{List, [], ◌∷◌, map}
use mathlib.Core.Bool.{Bool, true, false}
use Prim.Native.Nat.{ℕ, suc, ◌+◌, ◌<◌}
use native.Mathlib.Numerals.{add-one}
use native.Mathlib.Omega.{arith}
use lib.ListN.{length, get_or}
use Rattle.std.proofs.Common.{refl, rules, Bor, Option, Some, None}
use Rattle.std.proofs.lemmas.Bool.Decides.{nat_tests}
use Rattle.std.specs.Bool.{OnTrue, IsTrue}
use Rattle.std.specs.Option.{option_map}
use Rattle.std.specs.List.{AllAdjacentBelow, IsAllAdjacentAnswer}
use Rattle.std.specs.Iterator.Runs.{Run, ItemsMapTo}
use Rattle.trellis.proofs.Honest.{lower}
use Rattle.trellis.proofs.Listing.{no_entry}
use Rattle.sheets.specs.Bytes.{entry_at}
use Rattle.sheets.specs.Checking.{rising}
use Rattle.sheets.specs.Work.{entries_in}
use Rattle.sheets.proofs.Listing.{length_entries_in, entries_in_at, rising_not}
use Rattle.sheets.proofs.entries.rise.Goals as goal

-- the order of two neighbours
abbrev in_order : Bor (List ℕ) → Bor (List ℕ) → Bool
in_order x y = lower (entry_at x.now 0) (entry_at y.now 0)

-- where all neighbours are in order
all_rise : (items : List (Bor (List ℕ))) → AllAdjacentBelow (λ x y. in_order x y ≡ true) items (length items)
    → rising (entries_in (map (λ y. y.now) items)) ≡ true
unfolding entries_in rising
all_rise [] h = refl
all_rise (x ∷ []) h = refl
all_rise (x ∷ y ∷ items) h =
    rw (h 0 x (omega arith)) (all_rise (y ∷ items) (λ k d l.
    let e : suc k + 1 ≡ suc (k + 1) = omega arith in
    subst (λ (j : ℕ). in_order (get_or (x ∷ y ∷ items) (suc k) d) (get_or (x ∷ y ∷ items) j d) ≡ true) e (h (suc k) d (omega arith))))

-- an item, and what it lends
item_of : {x : List ℕ} (o : Option (Bor (List ℕ))) → option_map (λ y. y.now) o ≡ Some x → Bor (List ℕ)
item_of None e = let z : ◌≡◌ {A = ℕ} 0 1 = cc in absurd (omega arith)
item_of (Some y) e = y

item_now : {x : List ℕ} {y : Bor (List ℕ)} (o : Option (Bor (List ℕ))) → option_map (λ y. y) o ≡ Some y → option_map (λ y. y.now) o ≡ Some x → y.now ≡ x
item_now None e h = let z : ◌≡◌ {A = ℕ} 0 1 = cc in absurd (omega arith)
item_now (Some z) e h = cc

module _ {S : Type 0} {steps : S → Option (Bor (List ℕ)) → S → Type 0} (p : Run steps) (chunks : List (List ℕ)) (gives : ItemsMapTo p (λ y. y.now) chunks) where
  -- the entry at a place of the run
  entry_here : (k : ℕ) (d : Bor (List ℕ)) → k < p.len → entry_at (get_or p.items k d).now 0 ≡ get_or (entries_in chunks) k no_entry
  entry_here k d h = ap (λ (b : List ℕ). entry_at b 0) (item_now (p.at k) (p.reads k d h) (gives.2 k [] h)) ∙ sym (entries_in_at chunks k)

  -- what the run of a test says
  answered : (r : Bool) → OnTrue r (IsTrue p.whole) → IsAllAdjacentAnswer (λ x y b. in_order x y ≡ b) p.items r → r ≡ rising (entries_in chunks)
  answered true whole h = sym (ap (λ (l : List (List ℕ)). rising (entries_in l)) (sym (gives.4 whole)) ∙ all_rise p.items h)
  answered false whole h =
      let k : ℕ = h.0 in
      let near : k + 1 < p.len = omega (arith, p.long, h.1) in
      let d : Bor (List ℕ) = item_of (p.at k) (gives.2 k [] (omega arith)) in
      let next : entry_at (get_or p.items (k + 1) d).now 0 ≡ get_or (entries_in chunks) (suc k) no_entry = entry_here (k + 1) d near ∙ ap (λ (j : ℕ). get_or (entries_in chunks) j no_entry) (add-one k) in
      sym (rising_not (entries_in chunks) no_entry k (omega (arith, length_entries_in chunks, gives.0))
      (ap₂ lower (sym (entry_here k d (omega arith))) (sym next) ∙ h.2 d))

pub returns : goal.returns
returns c =
    let run = c.is_sorted_by.ensures.runs in
    let gives = c.iter.ensures.runs run.0 run.0.seen in
    answered run.0 _ gives c.is_sorted_by.result run.2.0 (run.2.1 in_order (λ x y r q k. (search rules, grind (arith, nat_tests)))).0
    ∙ ap (λ (l : List (List ℕ)). rising (entries_in l)) (ap (λ s. s.rest.now) run.1 ∙ c.iter.ensures.rest)
