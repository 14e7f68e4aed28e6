-- The loop of the run, by the work that is left: running on from the rows as they are gives what the whole search gives.
-- Over the pure search alone. Assumes nothing.
use mathlib.Core.Path.{◌≡◌, refl, sym, ap, ◌∙◌, subst}
use mathlib.Core.List.{List, []}
use mathlib.Core.Bool.{true, false}
use Prim.Native.Nat.{ℕ, zero, suc, ◌+◌, ◌-◌, ◌≤◌, ◌<◌}
use native.Mathlib.Numerals.{add-one}
use native.Mathlib.Omega.{arith}
use lib.ListN.{length}
use Rattle.trellis.specs.Trellis.{Trellis}
use Rattle.trellis.specs.Lawful.{Lawful}
use Rattle.trellis.specs.Search.{Row, first_open, started, full, spent, arrived, run, searched}
use Rattle.trellis.specs.Safe.{Safe}
use Rattle.trellis.proofs.Between.{Between, started_between}
use Rattle.trellis.proofs.Run.{Arrived, after, inside, step_going, run_found, run_spent, run_full, run_on}
use Rattle.trellis.proofs.Safe.{safe_started, safe_expand}

-- for the return at once: without room for the origin nothing is done
pub searched_none : (t : Trellis) (cap room allowance : ℕ) → room ≡ 0 → searched t cap room allowance ≡ record { rows = []; outcome = full 0 }
unfolding searched
searched_none t cap zero allowance e = refl
searched_none t cap (suc room) allowance e = absurd (omega arith)

-- so many steps are done, and running on finishes the search
pub record Running (t : Trellis) (cap room allowance : ℕ) (rows : List Row) (steps : ℕ) : Type 0 where
  pub between : Between t cap room steps rows
  pub safe : Safe t cap room rows
  pub within : steps ≤ allowance
  pub left : run t cap room (allowance - steps) steps rows ≡ searched t cap room allowance

-- rows by another name
pub running_cast : {t : Trellis} {cap room allowance : ℕ} {rows other : List Row} {steps : ℕ} → other ≡ rows → Running t cap room allowance rows steps
    → Running t cap room allowance other steps
running_cast {t} {cap} {room} {allowance} {rows} {other} {steps} e r = subst (λ (l : List Row). Running t cap room allowance l steps) (sym e) r

-- for the loop's start: the origin alone
pub running_start : {t : Trellis} {cap : ℕ} (room allowance : ℕ) → Lawful t → 1 ≤ cap → 0 < room → Running t cap room allowance started 0
unfolding searched
running_start {t} {cap} zero allowance law c h = absurd (omega arith)
running_start {t} {cap} (suc room) allowance law c h = record {
  between = started_between t cap (suc room) c (omega arith);
  safe = safe_started t cap (suc room) law.wide c (omega arith);
  within = omega arith;
  left = whole;
}
  where
    whole : run t cap (suc room) (allowance - 0) 0 started ≡ searched t cap (suc room) allowance
    whole = let e : allowance - 0 ≡ allowance = omega arith in ap (λ (k : ℕ). run t cap (suc room) k 0 started) e

module _ {t : Trellis} {cap room allowance : ℕ} {rows : List Row} {steps : ℕ} (law : Lawful t) (r : Running t cap room allowance rows steps) where
  -- for the read of the first open row: there is one
  pub running_open : first_open rows < length rows
  running_open = inside law r.between

  -- for the return at the terminal
  pub running_found : Arrived t rows → searched t cap room allowance ≡ arrived rows (first_open rows) steps
  running_found h = sym r.left ∙ run_found t cap room steps rows (allowance - steps) h

  module _ (off : Arrived t rows → ⊥) where
    -- for the return with the allowance spent
    pub running_spent : steps ≡ allowance → searched t cap room allowance ≡ record { rows = rows; outcome = spent steps }
    running_spent e =
        let z : allowance - steps ≡ 0 = omega arith in
        sym r.left ∙ ap (λ (k : ℕ). run t cap room k steps rows) z ∙ run_spent t cap room steps rows off

    module _ (more : (steps ≡ allowance) → ⊥) where
      -- the step at hand and those after it
      one_more : allowance - steps ≡ suc (allowance - suc steps)
      one_more = omega (arith, r.within)

      -- the run from here, with that step split off
      step : run t cap room (suc (allowance - suc steps)) steps rows ≡ searched t cap room allowance
      step = ap (λ (k : ℕ). run t cap room k steps rows) (sym one_more) ∙ r.left

      -- for the return without room
      pub running_full : (after t cap room rows).full ≡ true
          → searched t cap room allowance ≡ record { rows = (after t cap room rows).rows; outcome = full steps }
      running_full e = sym step ∙ run_full t cap room steps rows off (allowance - suc steps) e

      -- for the next turn
      pub running_next : (after t cap room rows).full ≡ false → Running t cap room allowance (after t cap room rows).rows (steps + 1)
      running_next e = subst (Running t cap room allowance (after t cap room rows).rows) (sym (add-one steps)) (record {
        between = (step_going law r.between off).went e;
        safe = safe_expand law.wide r.safe running_open;
        within = omega (arith, r.within);
        left = sym (run_on t cap room steps rows off (allowance - suc steps) e) ∙ step;
      })
