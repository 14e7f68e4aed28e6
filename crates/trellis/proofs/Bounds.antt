-- Law 6, bounds: a metric is at most the sum, over its levels, of any bound on the prices there. It is at least 0 as every number here is.
-- What the bound is of a code and a block is not here. Assumes nothing.
use mathlib.Core.Path.{◌≡◌}
use mathlib.Core.Logic.{◌⊎◌, inl, inr}
use Prim.Native.Nat.{ℕ, zero, suc, ◌+◌, ◌*◌, ◌≤◌, ◌<◌}
use native.Mathlib.Omega.{arith}
use lib.ListN.{length}
use Rattle.lists.proofs.Membership.{eq_or_lt}
use Rattle.trellis.specs.Trellis.{Trellis, Path, Node, top, allowed, ends, along, metric}
use Rattle.trellis.specs.Verdict.{least_metric}
use Rattle.trellis.specs.Lawful.{Allowed, start, step, Lawful}
use Rattle.trellis.proofs.Paths.{path_short}
use Rattle.trellis.proofs.Cost.{Cost}
use Rattle.trellis.proofs.Messages.{least_metric_cost}

-- ---- sums

-- a number of each level, added up over the levels below n
unfoldable pub sum_below : (ℕ → ℕ) → ℕ → ℕ
sum_below f zero = 0
sum_below f (suc n) = sum_below f n + f n

-- to compare sums to two levels
pub sum_below_more : (f : ℕ → ℕ) (m n : ℕ) → m ≤ n → sum_below f m ≤ sum_below f n
unfolding sum_below
sum_below_more f zero zero h = omega arith
sum_below_more f (suc m) zero h = absurd (omega arith)
sum_below_more f zero (suc n) h = omega arith
sum_below_more f (suc m) (suc n) h = go (eq_or_lt m n h) (λ k. sum_below_more f (suc m) n k)
  where
    go : (m ≡ n) ⊎ (m < n) → (m < n → sum_below f m + f m ≤ sum_below f n) → sum_below f m + f m ≤ sum_below f n + f n
    go (inl e) ih = rw e (omega arith)
    go (inr k) ih = omega (arith, ih k)

-- to bound a sum by one bound for all levels
pub sum_below_within : (f : ℕ → ℕ) (k n : ℕ) → ((l : ℕ) → l < n → f l ≤ k) → sum_below f n ≤ k * n
unfolding sum_below
sum_below_within f k zero h = omega arith
sum_below_within f k (suc n) h =
    let ih : sum_below f n ≤ k * n = sum_below_within f k n (λ l m. h l (omega arith)) in
    omega (arith, h n (omega arith))

-- ---- metrics

-- no allowed branch of a level costs more than the level's bound
pub record Bounded (t : Trellis) (bound : ℕ → ℕ) : Type 0 where
  pub within : (l s b : ℕ) → b < allowed t l → t.price l s b ≤ bound l

module _ {t : Trellis} {bound : ℕ → ℕ} (h : Bounded t bound) where
  -- a metric is at most the sum over its levels
  pub metric_bound : {p : Path} → Allowed t p → metric t p ≤ sum_below bound (length p)
  unfolding along sum_below
  metric_bound start = omega arith
  metric_bound (step {b = b} {p = p} k al) = omega (arith, metric_bound al, h.within (length p) (ends t p) b k)

  -- what fits the sum to the top fits every metric and every cost
  pub metric_bound_top : {p : Path} → Allowed t p → metric t p ≤ sum_below bound (top t)
  metric_bound_top {p} al = omega (arith, metric_bound al, sum_below_more bound (length p) (top t) (path_short al))

  -- every cost
  pub cost_bound : {x : Node} {c : ℕ} → Cost t x c → c ≤ sum_below bound (top t)
  cost_bound k = omega (arith, k.paid, metric_bound_top k.there.allowed)

  -- and the decoder's metric
  pub least_metric_bound : Lawful t → least_metric t ≤ sum_below bound (top t)
  least_metric_bound law = cost_bound (least_metric_cost law)
