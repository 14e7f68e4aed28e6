-- A loop over the inputs of a node; and what an entry inside the trellis says of its branches. Assumes nothing.
use mathlib.Core.Path.{◌≡◌, refl, sym, ap, ◌∙◌}
use mathlib.Core.Bool.{Bool, true, false, ◌&&◌, and-false}
use Prim.Native.Nat.{ℕ, zero, suc, ◌+◌, ◌≤◌, ◌<◌}
use native.Mathlib.Numerals.{add-one}
use native.Mathlib.Decide.{ℕ_discrete}
use native.Mathlib.Omega.{arith}
use borrow.Author.Tests.{leb-true, ltb-true}
use lib.Dec.{leb, ltb}
use Rattle.lists.specs.Lists.{all, below}
use Rattle.lists.proofs.Tests.{both}
use Rattle.trellis.specs.Verdict.{Entry}
use Rattle.sheets.specs.Checking.{inside}

-- one input more passes
pub below_next : (p : ℕ → Bool) (n : ℕ) → p n ≡ true → all p (below n) ≡ true → all p (below (n + 1)) ≡ true
unfolding all below
below_next p n h k = rw (add-one, h) k

-- an input fails
pub below_fails : (p : ℕ → Bool) (n i : ℕ) → i < n → p i ≡ false → all p (below n) ≡ false
unfolding all below
below_fails p zero i h e = absurd (omega arith)
below_fails p (suc n) i h e = go (ℕ_discrete i n) (λ l. below_fails p n i l e)
  where
    go : Dec (i ≡ n) → (i < n → all p (below n) ≡ false) → p n && all p (below n) ≡ false
    go (yes q) ih = rw (sym (ap p q) ∙ e) refl
    go (no q) ih = rw (ih (omega arith)) (and-false (p n))

-- level and state of an entry
pub inside_out : (top states : ℕ) (e : Entry) → inside top states e ≡ true → (e.node.level ≤ top) × (e.node.state < states)
inside_out top states e h =
    let r = both (leb e.node.level top) (ltb e.node.state states) h in
    (leb-true _ _ r.0, ltb-true _ _ r.1)
