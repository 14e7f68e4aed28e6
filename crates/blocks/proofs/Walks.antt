-- The message's path level by level: the walk, by what it holds so far, and the path that it comes to. Assumes nothing.
use mathlib.Core.Path.{◌≡◌, refl, sym, ap, ap₂, ◌∙◌, subst}
use mathlib.Core.List.{List, ◌∷◌}
use Prim.Native.Nat.{ℕ, zero, suc, ◌+◌, ◌*◌, ◌≤◌, ◌<◌}
use native.Mathlib.Numerals.{add-one}
use native.Mathlib.Decide.{ℕ_discrete}
use native.Mathlib.Omega.{arith}
use lib.ListN.{length, get_or, set, take}
use lib.Seq.{get_or-set_same, get_or-set_other, get_or-take}
use Rattle.trellis.specs.Trellis.{Trellis, ends, along, metric}
use Rattle.blocks.specs.declared.walk.Visit.{Visit}
use Rattle.blocks.specs.Walks.{early, visit_at, Walked}

-- a path's level is the number of its inputs
pub length_early : (message : List ℕ) (k : ℕ) → length (early message k) ≡ k
unfolding early
length_early message zero = refl
length_early message (suc k) = ap suc (length_early message k)

-- one branch more
early_next : (message : List ℕ) (k : ℕ) → early message (k + 1) ≡ get_or message k 0 ∷ early message k
unfolding early
early_next message k = rw add-one

-- The path is being walked: where it is, what it has cost, and what is written of it.
pub record Walking (t : Trellis) (message : List ℕ) (most bound : ℕ) (path : List Visit) (here : Visit) (level : ℕ) : Type 0 where
  pub state_is : here.state ≡ ends t (early message level)
  pub metric_is : here.metric ≡ metric t (early message level)
  pub small : here.metric ≤ most * level
  pub below : here.state < bound
  pub walked : Walked t message level path

-- what holds of the visits that were written, and of one more behind them
written : (P : ℕ → Visit → Type 0) (l : List Visit) (k : ℕ) (v : Visit) → k + 1 < length l → ((j : ℕ) → j ≤ k → P j (visit_at l j)) → P (k + 1) v
    → (j : ℕ) → j ≤ k + 1 → P j (visit_at (set l (k + 1) v) j)
written P l k v room h e j fits = go (ℕ_discrete j (k + 1))
  where
    go : Dec (j ≡ k + 1) → P j (visit_at (set l (k + 1) v) j)
    go (yes q) = subst (λ (i : ℕ). P i (visit_at (set l (k + 1) v) i)) (sym q) (subst (P (k + 1)) (sym (get_or-set_same l (k + 1) v _ room)) e)
    go (no n) = subst (P j) (sym (get_or-set_other l (k + 1) j v _ n)) (h j (omega arith))

module _ (t : Trellis) (message : List ℕ) (most bound : ℕ) (path : List Visit) (here : Visit) (level : ℕ)
    (w : Walking t message most bound path here level) where
  -- for the loop's next turn: one branch is walked
  pub walking_next : (b paid to : ℕ) → b ≡ get_or message level 0 → paid ≡ t.price level here.state b → to ≡ t.next here.state b → paid ≤ most
      → to < bound → level + 1 < length path
      → let there : Visit = record { state = to; metric = here.metric + paid } in Walking t message most bound (set path (level + 1) there) there (level + 1)
  unfolding ends along
  walking_next b paid to eb ep et cheap low room = record {
    state_is = state;
    metric_is = sum;
    small = omega (arith, w.small);
    below = low;
    walked = record {
      state_at = written (λ j v. v.state ≡ ends t (early message j)) path level there room w.walked.state_at state;
      metric_at = written (λ j v. v.metric ≡ metric t (early message j)) path level there room w.walked.metric_at sum;
    };
  }
    where
      there : Visit
      there = record { state = to; metric = here.metric + paid }

      state : to ≡ ends t (early message (level + 1))
      state = et ∙ ap₂ t.next w.state_is eb ∙ ap (ends t) (sym (early_next message level))

      price : paid ≡ t.price (length (early message level)) (ends t (early message level)) (get_or message level 0)
      price = ep ∙ (λ z. t.price (sym (length_early message level) z) (w.state_is z) (eb z))

      sum : here.metric + paid ≡ metric t (early message (level + 1))
      sum = ap₂ (λ (x y : ℕ). x + y) w.metric_is price ∙ ap (metric t) (sym (early_next message level))

-- for the loop's start: the origin
pub walking_start : (t : Trellis) (message : List ℕ) (most bound : ℕ) (path : List Visit) → 0 < bound → visit_at path 0 ≡ record { state = 0; metric = 0 }
    → Walking t message most bound path (record { state = 0; metric = 0 }) 0
unfolding early ends along
walking_start t message most bound path b e = record {
  state_is = refl;
  metric_is = refl;
  small = omega arith;
  below = b;
  walked = record {
    state_at = (λ j h. let q : 0 ≡ j = omega arith in subst (λ (k : ℕ). (visit_at path k).state ≡ ends t (early message k)) q (ap (λ (v : Visit). v.state) e));
    metric_at = (λ j h. let q : 0 ≡ j = omega arith in subst (λ (k : ℕ). (visit_at path k).metric ≡ metric t (early message k)) q (ap (λ (v : Visit). v.metric) e));
  };
}

-- for the part of the visits that a path has
pub walked_part : (t : Trellis) (message : List ℕ) (level n : ℕ) (path : List Visit) → level < n → Walked t message level path → Walked t message level (take n path)
walked_part t message level n path h w = record {
  state_at = (λ j k. ap (λ (v : Visit). v.state) (get_or-take n path j _ (omega arith)) ∙ w.state_at j k);
  metric_at = (λ j k. ap (λ (v : Visit). v.metric) (get_or-take n path j _ (omega arith)) ∙ w.metric_at j k);
}
