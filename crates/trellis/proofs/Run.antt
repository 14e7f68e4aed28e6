-- For law 8, the search's run: how it goes on where the first open row and the step are known, and the four ways in which it ends, each
-- with what is then known. Assumes nothing.
use mathlib.Core.Path.{◌≡◌, refl, sym, ap, subst}
use mathlib.Core.Logic.{◌⊎◌, inl, inr}
use mathlib.Core.List.{List, [], ◌∷◌}
use mathlib.Core.Bool.{Bool, true, false}
use Prim.Native.Nat.{ℕ, zero, suc, ◌+◌, ◌≤◌, ◌<◌}
use native.Mathlib.Omega.{arith}
use lib.Dec.{T}
use lib.ListN.{length, take}
use Rattle.lists.proofs.Tests.{test, true_out, false_out}
use Rattle.lists.proofs.Membership.{◌∈◌, singleton_out, append_out}
use Rattle.trellis.specs.Trellis.{Trellis, Node, same, terminal}
use Rattle.trellis.specs.Verdict.{Entry, priced, ranked, steps, met}
use Rattle.trellis.specs.Lawful.{Lawful}
use Rattle.trellis.specs.Search.{Row, entry_at, node_at, started, first_open, Tried, expand, full, spent, Ended, arrived, run, searched}
use Rattle.trellis.proofs.Paths.{same_equality}
use Rattle.trellis.proofs.Messages.{terminal_reached}
use Rattle.trellis.proofs.Step.{Closed}
use Rattle.trellis.proofs.MetNodes.{steps_past, next_inside}
use Rattle.trellis.proofs.Relax.{Going}
use Rattle.trellis.proofs.Between.{Between, started_between, Next, between_met, between_open, between_next}
use Rattle.trellis.proofs.Expand.{expand_going}

-- ---- how it goes on

-- the terminal is first
abbrev pub Arrived : Trellis → List Row → Type 0
Arrived t rows = T (same (node_at rows (first_open rows)) (terminal t))

-- what the run's step makes of the rows
abbrev pub after : (t : Trellis) (cap room : ℕ) (rows : List Row) → Tried
after t cap room rows = expand t cap room (first_open rows) rows

module _ (t : Trellis) (cap room j : ℕ) (rows : List Row) where
  -- to follow the run by what was found first
  pub run_found : (left : ℕ) → Arrived t rows → run t cap room left j rows ≡ arrived rows (first_open rows) j
  unfolding run
  run_found zero h = rw (run, true_out (same (node_at rows (first_open rows)) (terminal t)) h)
  run_found (suc left) h = rw (run, true_out (same (node_at rows (first_open rows)) (terminal t)) h)

  module _ (off : Arrived t rows → ⊥) where
    -- no step more is allowed
    pub run_spent : run t cap room 0 j rows ≡ record { rows = rows; outcome = spent j }
    unfolding run
    run_spent = rw (run, false_out (same (node_at rows (first_open rows)) (terminal t)) off)

    -- the step has no room
    pub run_full : (left : ℕ) → (after t cap room rows).full ≡ true
        → run t cap room (suc left) j rows ≡ record { rows = (after t cap room rows).rows; outcome = full j }
    unfolding run
    run_full left e = rw (run, false_out (same (node_at rows (first_open rows)) (terminal t)) off, e)

    -- the step has room
    pub run_on : (left : ℕ) → (after t cap room rows).full ≡ false
        → run t cap room (suc left) j rows ≡ run t cap room left (suc j) (after t cap room rows).rows
    unfolding run
    run_on left e = rw (run, false_out (same (node_at rows (first_open rows)) (terminal t)) off, e)

-- ---- how it ends

-- the four ways
pub data Ending (t : Trellis) (cap room allowance : ℕ) (e : Ended) : Type 0 where
  -- not even the origin has room
  no_room : room ≡ 0 → e ≡ record { rows = []; outcome = full 0 } → Ending t cap room allowance e
  -- the terminal is first after j steps
  at_terminal : (j i : ℕ) (rows : List Row) → Between t cap room j rows → i ≡ first_open rows → i < length rows → node_at rows i ≡ terminal t
      → j ≤ allowance → e ≡ arrived rows i j → Ending t cap room allowance e
  -- j steps have room, and the next does not
  out_of_room : (j : ℕ) (rows : List Row) → j < steps t → j < allowance → met t j ≤ room → room < met t (suc j)
      → e ≡ record { rows = rows; outcome = full j } → Ending t cap room allowance e
  -- all allowed steps have room, and the terminal is not first
  out_of_steps : (rows : List Row) → allowance < steps t → met t allowance ≤ room
      → e ≡ record { rows = rows; outcome = spent allowance } → Ending t cap room allowance e

module _ {t : Trellis} (law : Lawful t) {cap room : ℕ} where
  module _ {j : ℕ} {rows : List Row} (inv : Between t cap room j rows) where
    -- there is an open row
    pub inside : first_open rows < length rows
    inside = between_open inv (terminal_reached law)

    -- the steps so far had room
    pub fits : met t j ≤ room
    fits = rw (between_met inv) at inv.held

    module _ (off : Arrived t rows → ⊥) where
      apart : node_at rows (first_open rows) ≡ terminal t → ⊥
      apart e = off (subst (λ (x : Node). T (same (node_at rows (first_open rows)) x)) e (same_equality.complete (node_at rows (first_open rows))))

      -- the terminal is not first: there is a step more
      pub further : j < steps t
      further =
          steps_past t (suc j) (terminal_reached law) (next_inside t j (entry_at rows (first_open rows)) next.grows)
          (λ m. go (append_out (take j (ranked t)) (rw next.grows at m)))
        where
          next : Next t cap j (first_open rows) rows
          next = between_next inv refl inside

          go : Closed t j (terminal t) ⊎ (priced t (terminal t) ∈ (entry_at rows (first_open rows) ∷ [])) → ⊥
          go (inl m) = inv.table.ahead m
          go (inr m) = apart (ap (λ (x : Entry). x.node) (sym (singleton_out m)))

      -- the run's step
      pub step_going : Going (Between t cap room (suc j)) (room < met t (suc j)) (after t cap room rows)
      step_going = expand_going inv refl inside apart

    -- the terminal is first
    arriving : (left : ℕ) → Arrived t rows → Ending t cap room (j + left) (run t cap room left j rows)
    arriving left h =
        at_terminal j (first_open rows) rows inv refl inside (same_equality.sound (node_at rows (first_open rows)) (terminal t) h) (omega arith)
        (run_found t cap room j rows left h)

  -- the whole run ends in one of these ways
  pub run_ending : (left j : ℕ) (rows : List Row) → Between t cap room j rows → Ending t cap room (j + left) (run t cap room left j rows)
  run_ending zero j rows inv = go (test (same (node_at rows (first_open rows)) (terminal t)))
    where
      go : Dec (Arrived t rows) → Ending t cap room (j + 0) (run t cap room 0 j rows)
      go (yes h) = arriving inv 0 h
      go (no off) =
          let e : j + 0 ≡ j = omega arith in
          rw e (out_of_steps rows (further inv off) (fits inv) (run_spent t cap room j rows off))
  run_ending (suc left) j rows inv =
      go (test (same (node_at rows (first_open rows)) (terminal t))) (after t cap room rows).full refl
      (λ m. run_ending left (suc j) (after t cap room rows).rows m)
    where
      next : Tried
      next = after t cap room rows

      go : Dec (Arrived t rows) → (shut : Bool) → next.full ≡ shut
          → (Between t cap room (suc j) next.rows → Ending t cap room (suc j + left) (run t cap room left (suc j) next.rows))
          → Ending t cap room (j + suc left) (run t cap room (suc left) j rows)
      go (yes h) shut e ih = arriving inv (suc left) h
      go (no off) true e ih =
          out_of_room j next.rows (further inv off) (omega arith) (fits inv) ((step_going inv off).stuck e) (run_full t cap room j rows off left e)
      go (no off) false e ih =
          let n : suc j + left ≡ j + suc left = omega arith in
          subst (λ (a : ℕ). Ending t cap room a (run t cap room (suc left) j rows)) n
          (rw (run_on t cap room j rows off left e) (ih ((step_going inv off).went e)))

-- and so does the search
pub searched_ending : {t : Trellis} → Lawful t → (cap room allowance : ℕ) → 1 ≤ cap → Ending t cap room allowance (searched t cap room allowance)
unfolding searched
searched_ending law cap zero allowance c = no_room refl refl
searched_ending {t} law cap (suc room) allowance c =
    let e : 0 + allowance ≡ allowance = omega arith in
    subst (λ (a : ℕ). Ending t cap (suc room) a (run t cap (suc room) allowance 0 started)) e
    (run_ending law allowance 0 started (started_between t cap (suc room) c (omega arith)))
