-- The loop over a row's branches, by the work that is left: going on from the rows as they are gives what the whole fan gives.
-- Over the pure search alone. Assumes nothing.
use mathlib.Core.Path.{◌≡◌, sym, ap, ◌∙◌, subst}
use mathlib.Core.List.{List}
use mathlib.Core.Bool.{true, false}
use Prim.Native.Nat.{ℕ, suc, ◌+◌, ◌-◌, ◌≤◌, ◌<◌}
use native.Mathlib.Numerals.{add-one}
use native.Mathlib.Omega.{arith}
use lib.ListN.{length}
use Rattle.trellis.specs.Trellis.{Trellis, allowed}
use Rattle.trellis.specs.Search.{Row, node_at, relax, fan}
use Rattle.trellis.specs.Safe.{Safe}
use Rattle.trellis.proofs.Expand.{fan_full, fan_on}
use Rattle.trellis.proofs.Safe.{Grown, safe_relax}

-- the branches of row i below input b are taken, and the rest of them finishes the fan
pub record Fanning (t : Trellis) (cap room i inputs : ℕ) (first rows : List Row) (b : ℕ) : Type 0 where
  pub safe : Safe t cap room rows
  pub there : i < length rows
  pub allows : inputs ≡ allowed t (node_at rows i).level
  pub within : b ≤ inputs
  pub left : fan t cap room i (inputs - b) b rows ≡ fan t cap room i inputs 0 first

-- rows by another name
pub fanning_cast : {t : Trellis} {cap room i inputs : ℕ} {first rows other : List Row} {b : ℕ} → other ≡ rows → Fanning t cap room i inputs first rows b
    → Fanning t cap room i inputs first other b
fanning_cast {t} {cap} {room} {i} {inputs} {first} {rows} {other} {b} e f = subst (λ (l : List Row). Fanning t cap room i inputs first l b) (sym e) f

-- for the loop's start: no branch is taken yet
pub fanning_start : {t : Trellis} {cap room i inputs : ℕ} {rows : List Row} → Safe t cap room rows → i < length rows → inputs ≡ allowed t (node_at rows i).level
    → Fanning t cap room i inputs rows rows 0
fanning_start {t} {cap} {room} {i} {inputs} {rows} s h e = record {
  safe = s;
  there = h;
  allows = e;
  within = omega arith;
  left = let z : inputs - 0 ≡ inputs = omega arith in ap (λ (k : ℕ). fan t cap room i k 0 rows) z;
}

module _ {t : Trellis} {cap room i inputs : ℕ} {first rows : List Row} {b : ℕ} (f : Fanning t cap room i inputs first rows b) where
  module _ (more : b < inputs) where
    -- the branch at hand and those after it
    one_more : inputs - b ≡ suc (inputs - suc b)
    one_more = omega arith

    -- for an early return: the branch had no room
    pub fanning_full : (relax t cap room i b rows).full ≡ true → fan t cap room i inputs 0 first ≡ relax t cap room i b rows
    fanning_full e = sym f.left ∙ ap (λ (k : ℕ). fan t cap room i k b rows) one_more ∙ fan_full t cap room i (inputs - suc b) b rows e

    -- for the next turn: the branch was taken
    pub fanning_next : 0 < t.inputs → (relax t cap room i b rows).full ≡ false → Fanning t cap room i inputs first (relax t cap room i b rows).rows (b + 1)
    fanning_next wide e =
        let u : b < allowed t (node_at rows i).level = omega (arith, f.allows) in
        let g : Grown t cap room i rows (relax t cap room i b rows).rows = safe_relax wide f.safe f.there u in
        record {
          safe = g.safe;
          there = omega (arith, f.there, g.longer);
          allows = f.allows ∙ ap (λ (r : Row). allowed t r.entry.node.level) (sym g.stays);
          within = omega arith;
          left =
              rw (add-one b) (sym (fan_on t cap room i (inputs - suc b) b rows e)
              ∙ ap (λ (k : ℕ). fan t cap room i k b rows) (sym one_more) ∙ f.left);
        }

  -- for the loop's end: all branches are taken
  pub fanning_done : inputs ≤ b → fan t cap room i inputs 0 first ≡ record { rows = rows; full = false }
  unfolding fan
  fanning_done h = let z : inputs - b ≡ 0 = omega arith in sym f.left ∙ ap (λ (k : ℕ). fan t cap room i k b rows) z
