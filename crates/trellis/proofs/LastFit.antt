-- Law 4, for refusal 3: 'the greatest j with D(j) at most R, or 0 if none'. The definition looks at the j up to s alone; here it is shown
-- that where D(s) is above R it is the greatest of all j, since D does not fall. First how a search that stops finds it, then what it is.
-- What a verdict says that refuses so is in Refused. Assumes nothing.
use mathlib.Core.Path.{◌≡◌, refl, sym}
use mathlib.Core.Logic.{◌⊎◌, inl, inr}
use mathlib.Core.Bool.{cond}
use Prim.Native.Nat.{ℕ, zero, suc, ◌≤◌, ◌<◌}
use native.Mathlib.Decide.{dec_le, dec_lt}
use native.Mathlib.Omega.{arith}
use borrow.Author.Tests.{le-leb, lt-leb}
use lib.Dec.{leb}
use Rattle.lists.proofs.Membership.{eq_or_lt}
use Rattle.trellis.specs.Trellis.{Trellis}
use Rattle.trellis.specs.Verdict.{met, last_fit}
use Rattle.trellis.proofs.MetNodes.{met_mono}

module _ (t : Trellis) (room : ℕ) where
  -- ---- how it is found

  -- it is found where D passes the room
  pub last_fit_is : (j k : ℕ) → j ≤ k → met t j ≤ room → room < met t (suc j) → last_fit t room k ≡ j
  unfolding last_fit
  last_fit_is j zero h p q = omega arith
  last_fit_is j (suc k) h p q = go (eq_or_lt j (suc k) (omega arith)) (λ l. last_fit_is j k l p q)
    where
      go : (j ≡ suc k) ⊎ (j < suc k) → (j ≤ k → last_fit t room k ≡ j) → cond (leb (met t (suc k)) room) (suc k) (last_fit t room k) ≡ j
      go (inl e) ih = rw (le-leb (met t (suc k)) room (rw (sym e) p)) (sym e)
      go (inr l) ih = rw (lt-leb (met t (suc k)) room (omega (arith, met_mono t (suc j) (suc k) (omega arith)))) (ih (omega arith))

  -- 'or 0 if none'
  pub last_fit_none : (k : ℕ) → ((j : ℕ) → met t j ≤ room → ⊥) → last_fit t room k ≡ 0
  unfolding last_fit
  last_fit_none zero none = refl
  last_fit_none (suc k) none = rw (lt-leb (met t (suc k)) room (above (dec_lt room (met t (suc k))))) (last_fit_none k none)
    where
      above : Dec (room < met t (suc k)) → room < met t (suc k)
      above (yes h) = h
      above (no h) = absurd (none (suc k) (omega arith))

  -- ---- what it is

  -- 'with D(j) at most R': it fits, where any j does
  pub last_fit_fits : (k j : ℕ) → met t j ≤ room → met t (last_fit t room k) ≤ room
  unfolding last_fit
  last_fit_fits zero j h = omega (arith, met_mono t 0 j (omega arith))
  last_fit_fits (suc k) j h = go (dec_le (met t (suc k)) room) (last_fit_fits k j h)
    where
      go : Dec (met t (suc k) ≤ room) → met t (last_fit t room k) ≤ room → met t (cond (leb (met t (suc k)) room) (suc k) (last_fit t room k)) ≤ room
      go (yes u) ih = rw (le-leb (met t (suc k)) room u) u
      go (no u) ih = rw (lt-leb (met t (suc k)) room (omega arith)) ih

  -- of the j up to k that fit, none is above it
  last_fit_within : (k j : ℕ) → j ≤ k → met t j ≤ room → j ≤ last_fit t room k
  unfolding last_fit
  last_fit_within zero j h p = h
  last_fit_within (suc k) j h p = go (dec_le (met t (suc k)) room) (eq_or_lt j (suc k) (omega arith)) (λ l. last_fit_within k j l p)
    where
      go : Dec (met t (suc k) ≤ room) → (j ≡ suc k) ⊎ (j < suc k) → (j ≤ k → j ≤ last_fit t room k)
          → j ≤ cond (leb (met t (suc k)) room) (suc k) (last_fit t room k)
      go (yes u) e ih = rw (le-leb (met t (suc k)) room u) h
      go (no u) (inl e) ih = absurd (u (rw (sym e) p))
      go (no u) (inr l) ih = rw (lt-leb (met t (suc k)) room (omega arith)) (ih (omega arith))

  -- 'the greatest j': where D(k) is above the room, no j at all that fits is above it
  pub last_fit_greatest : (k j : ℕ) → room < met t k → met t j ≤ room → j ≤ last_fit t room k
  last_fit_greatest k j h p = go (dec_le j k)
    where
      go : Dec (j ≤ k) → j ≤ last_fit t room k
      go (yes l) = last_fit_within k j l p
      go (no l) = absurd (omega (arith, met_mono t k j (omega arith)))
