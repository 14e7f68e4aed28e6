-- The parts of a message's path, input by input: the whole of it is the path of the message, and its parts are the shorter ones.
-- Assumes nothing.
use mathlib.Core.Path.{◌≡◌, refl, sym, ap, ap₂, ◌∙◌, subst}
use mathlib.Core.Logic.{◌⊎◌, inl, inr}
use mathlib.Core.List.{List, [], ◌∷◌, ◌++◌, reverse, reverse_aux-eq}
use Prim.Native.Nat.{ℕ, zero, suc, ◌+◌, ◌≤◌, ◌<◌}
use native.Mathlib.Nat.{add-suc, add-zero}
use native.Mathlib.Omega.{arith}
use lib.ListN.{length, get_or, replicate, get_or-eq_default}
use Rattle.lists.proofs.Membership.{◌∈◌, here, further, singleton_out, Every, eq_or_lt}
use Rattle.trellis.specs.Trellis.{Trellis, Path, top}
use Rattle.trellis.specs.Verdict.{path_of}
use Rattle.trellis.proofs.Parts.{parts}
use Rattle.blocks.specs.Walks.{early}

-- ---- the whole path

-- the first input of all stands last
early_first : (b : ℕ) (w : List ℕ) (k : ℕ) → early (b ∷ w) (suc k) ≡ early w k ++ (b ∷ [])
unfolding early
early_first b w zero = refl
early_first b w (suc k) = ap (λ (p : Path). get_or w k 0 ∷ p) (early_first b w k)

-- the message alone, turned round
early_message : (w : List ℕ) → early w (length w) ≡ reverse w
unfolding early
early_message [] = refl
early_message (b ∷ w) = early_first b w (length w) ∙ ap (λ (p : Path). p ++ (b ∷ [])) (early_message w) ∙ sym (reverse_aux-eq w (b ∷ []))

-- behind the message stand zeros
early_tail : (w : List ℕ) (k : ℕ) → early w (length w + k) ≡ replicate k 0 ++ reverse w
unfolding early
early_tail w zero = rw add-zero (early_message w)
early_tail w (suc k) = rw add-suc (ap₂ (λ (b : ℕ) (p : Path). b ∷ p) (get_or-eq_default w 0 (omega arith)) (early_tail w k))

-- for the check: the path of a message, level by level
pub early_path : (t : Trellis) (w : List ℕ) → length w ≡ t.span → early w (top t) ≡ path_of t w
unfolding path_of
early_path t w h = ap (λ (k : ℕ). early w (k + t.tail)) (sym h) ∙ early_tail w t.tail

-- ---- its parts

-- each shorter path is one
pub parts_early : (w : List ℕ) (k j : ℕ) → j ≤ k → early w j ∈ parts (early w k)
unfolding early
parts_early w zero zero h = here refl
parts_early w zero (suc j) h = absurd (omega arith)
parts_early w (suc k) j h = go (eq_or_lt j (suc k) (omega arith)) (λ l. parts_early w k j l)
  where
    go : (j ≡ suc k) ⊎ (j < suc k) → (j ≤ k → early w j ∈ parts (early w k)) → early w j ∈ parts (early w (suc k))
    go (inl e) ih = here (ap (early w) e)
    go (inr l) ih = further (ih (omega arith))

-- to show a fact of every part
pub every_part : (Q : Path → Type 0) (w : List ℕ) (k : ℕ) → ((j : ℕ) → j ≤ k → Q (early w j)) → Every Q (parts (early w k))
unfolding early
every_part Q w zero h p m = subst Q (sym (singleton_out m)) (h 0 (omega arith))
every_part Q w (suc k) h p (here e) = subst Q (sym e) (h (suc k) (omega arith))
every_part Q w (suc k) h p (further m) = every_part Q w k (λ j l. h j (omega arith)) p m
