-- Law 9: the verdict by how a search came to its end: no room at all, full after j steps, the allowance spent, the terminal found, which is
-- what the search's last step cites; then the three ways to a verdict, for its readers (Answered, Refused). Assumes nothing.
use mathlib.Core.Path.{◌≡◌, ap}
use mathlib.Core.Logic.{◌⊎◌, inl, inr}
use Prim.Native.Nat.{ℕ, suc, ◌≤◌, ◌<◌, min}
use native.Mathlib.Decide.{dec_lt}
use native.Mathlib.Omega.{arith}
use borrow.Author.Tests.{lt-ltb, le-ltb}
use Rattle.trellis.specs.Trellis.{Trellis}
use Rattle.trellis.specs.Verdict.{steps, met, decided, least_messages, last_fit, verdict, room_short, allowance_spent}
use Rattle.trellis.proofs.MetNodes.{met_mono, met_some}
use Rattle.trellis.proofs.LastFit.{last_fit_is, last_fit_none}

-- not even the origin has room
pub verdict_none : (t : Trellis) (allowance : ℕ) → verdict t 0 allowance ≡ room_short 0
unfolding verdict
verdict_none t allowance =
    rw (lt-ltb 0 (met t (min (steps t) allowance)) (met_some t (min (steps t) allowance)))
    (ap room_short (last_fit_none t 0 (min (steps t) allowance) (λ j h. omega (arith, met_some t j))))

-- j steps fit, the next one is wanted and does not
pub verdict_full : (t : Trellis) (room allowance j : ℕ) → j < steps t → j < allowance → met t j ≤ room → room < met t (suc j)
    → verdict t room allowance ≡ room_short j
unfolding verdict
verdict_full t room allowance j h k p q =
    rw (lt-ltb room (met t (min (steps t) allowance)) (omega (arith, met_mono t (suc j) (min (steps t) allowance) (omega arith))))
    (ap room_short (last_fit_is t room j (min (steps t) allowance) (omega arith) p q))

-- all allowed steps fit, and the terminal is not yet first
pub verdict_spent : (t : Trellis) (room allowance : ℕ) → allowance < steps t → met t allowance ≤ room → verdict t room allowance ≡ allowance_spent allowance
unfolding verdict
verdict_spent t room allowance h p =
    let e : min (steps t) allowance ≡ allowance = omega arith in
    rw (e, le-ltb room (met t allowance) p, lt-ltb allowance (steps t) h)

-- all steps before the terminal fit and are allowed
pub verdict_found : (t : Trellis) (room allowance : ℕ) → steps t ≤ allowance → met t (steps t) ≤ room → verdict t room allowance ≡ decided t (least_messages t)
unfolding verdict
verdict_found t room allowance h p =
    let e : min (steps t) allowance ≡ steps t = omega arith in
    rw (e, le-ltb room (met t (steps t)) p, le-ltb allowance (steps t) h)

-- ---- the three ways

-- D(s) > R
pub record Full (t : Trellis) (room allowance : ℕ) : Type 0 where
  pub above : room < met t (min (steps t) allowance)
  pub told : verdict t room allowance ≡ room_short (last_fit t room (min (steps t) allowance))

-- 'Otherwise, if B < E'
pub record Spent (t : Trellis) (room allowance : ℕ) : Type 0 where
  pub short : allowance < steps t
  -- D(B) ≤ R
  pub roomy : met t allowance ≤ room
  pub told : verdict t room allowance ≡ allowance_spent allowance

-- 'Otherwise the least metric is known'
pub record Known (t : Trellis) (room allowance : ℕ) : Type 0 where
  -- E ≤ B
  pub allowed : steps t ≤ allowance
  -- D(E) ≤ R
  pub roomy : met t (steps t) ≤ room
  pub told : verdict t room allowance ≡ decided t (least_messages t)

-- for whoever reads a verdict: it came one of these ways
pub verdict_ways : (t : Trellis) (room allowance : ℕ) → Full t room allowance ⊎ (Spent t room allowance ⊎ Known t room allowance)
unfolding verdict
verdict_ways t room allowance = go (dec_lt room (met t (min (steps t) allowance))) (dec_lt allowance (steps t))
  where
    low : (room < met t (min (steps t) allowance) → ⊥) → met t (min (steps t) allowance) ≤ room
    low h = omega arith

    go : Dec (room < met t (min (steps t) allowance)) → Dec (allowance < steps t)
        → Full t room allowance ⊎ (Spent t room allowance ⊎ Known t room allowance)
    go (yes h) k = inl (record { above = h; told = rw (lt-ltb room (met t (min (steps t) allowance)) h) })
    go (no h) (yes k) =
        let e : min (steps t) allowance ≡ allowance = omega arith in
        let r : met t allowance ≤ room = rw e at (low h) in
        inr (inl (record { short = k; roomy = r; told = verdict_spent t room allowance k r }))
    go (no h) (no k) =
        let e : min (steps t) allowance ≡ steps t = omega arith in
        let r : met t (steps t) ≤ room = rw e at (low h) in
        inr (inr (record { allowed = omega arith; roomy = r; told = verdict_found t room allowance (omega arith) r }))
