-- The metric of a message's path is the distance of its codeword from the block: what `encode` writes is what `decode` measures.
-- And no metric is above the sum of all weights. A block with fewer symbols than the codeword is measured as far as it goes.
-- Assumes nothing.
use mathlib.Core.Path.{◌≡◌, refl, sym, ap, ◌∙◌}
use mathlib.Core.List.{List, [], ◌∷◌, ◌++◌, reverse, reverse_aux, reverse_aux-append, reverse-reverse}
use mathlib.Core.Bool.{Bool, true, false, cond}
use Prim.Native.Nat.{ℕ, zero, suc, ◌+◌, ◌*◌, ◌≤◌}
use native.Mathlib.Nat.{zero-add, zero-mul, suc-mul}
use native.Mathlib.Omega.{arith}
use lib.Dec.{eqb}
use lib.ListN.{length, drop, replicate, length-map}
use lib.Seq.{drop-drop, length-take-le}
use Rattle.codes.specs.declared.table.Code.{Code}
use Rattle.codes.specs.Codes.{generators_of, register_of, next_state, output_bit, branch_outputs, outputs_from, with_tail, codeword}
use Rattle.trellis.specs.Trellis.{Trellis, Path, ends, along, metric}
use Rattle.trellis.specs.Verdict.{path_of}
use Rattle.blocks.specs.Symbols.{Seen}
use Rattle.blocks.specs.Blocks.{distance, branch_cost, trellis_of}
use Rattle.blocks.specs.Bounds.{total_weight}

-- ---- distance

-- for branches one after the other: each part of the outputs against its own symbols
pub distance_append : (xs ys : List ℕ) (block : List Seen) → distance (xs ++ ys) block ≡ distance xs block + distance ys (drop (length xs) block)
unfolding distance
distance_append [] ys block = omega arith
distance_append (x ∷ xs) [] [] = omega arith
distance_append (x ∷ xs) (y ∷ ys) [] = omega arith
distance_append (x ∷ xs) ys (s ∷ block) = omega (arith, distance_append xs ys block)

-- what is left of a block weighs no more
rest_weight : (block : List Seen) (n : ℕ) → total_weight (drop n block) ≤ total_weight block
unfolding total_weight
rest_weight block zero = omega arith
rest_weight [] (suc n) = omega arith
rest_weight (s ∷ block) (suc n) = omega (arith, rest_weight block n)

-- for 'at most the sum of all weights'
pub distance_total : (xs : List ℕ) (block : List Seen) → distance xs block ≤ total_weight block
unfolding distance total_weight
distance_total [] block = omega arith
distance_total (x ∷ xs) [] = omega arith
distance_total (x ∷ xs) (s ∷ block) = go (eqb x s.hard_bit) (distance_total xs block)
  where
    go : (same : Bool) → distance xs block ≤ total_weight block → cond same 0 s.weight + distance xs block ≤ s.weight + total_weight block
    go true h = omega arith
    go false h = omega arith

-- for a branch: nor is the distance from what is left of a block behind a place
pub distance_within : (xs : List ℕ) (block : List Seen) (n : ℕ) → distance xs (drop n block) ≤ total_weight block
distance_within xs block n = omega (arith, distance_total xs (drop n block), rest_weight block n)

-- ---- metric

-- zeros put on one by one are a row of zeros
zeros_shift : (k : ℕ) (p : Path) → replicate k 0 ++ (0 ∷ p) ≡ 0 ∷ (replicate k 0 ++ p)
zeros_shift zero p = refl
zeros_shift (suc k) p = ap (λ (q : Path). 0 ∷ q) (zeros_shift k p)

-- a row of zeros is its own reversal
reverse_zeros : (k : ℕ) (p : Path) → reverse_aux (replicate k 0) p ≡ replicate k 0 ++ p
reverse_zeros zero p = refl
reverse_zeros (suc k) p = reverse_zeros k (0 ∷ p) ∙ zeros_shift k p

module _ (c : Code) (l : ℕ) (block : List Seen) (full : c.outputs ≤ length c.generators) where
  -- the trellis in question
  abbrev t : Trellis
  t = trellis_of c l block

  -- the symbols behind a branch
  next_symbols : (k r : ℕ) → drop (length (branch_outputs (generators_of c) r)) (drop (k * c.outputs) block) ≡ drop (suc k * c.outputs) block
  next_symbols k r =
      let n : length (branch_outputs (generators_of c) r) ≡ c.outputs =
      length-map (generators_of c) (output_bit r) ∙ length-take-le c.outputs c.generators full in
      rw (n, drop-drop, suc-mul)

  -- a path that goes on by these bits costs the distance of their outputs from the symbols that are left
  metric_onward : (bits : List ℕ) (p : Path)
      → metric t (reverse_aux bits p)
      ≡ metric t p + distance (outputs_from (generators_of c) c.memory (ends t p) bits) (drop (length p * c.outputs) block)
  unfolding outputs_from distance ends along branch_cost
  metric_onward [] p = omega arith
  metric_onward (b ∷ bits) p =
      let r : ℕ = register_of c.memory b (ends t p) in
      let rest : List ℕ = outputs_from (generators_of c) c.memory (next_state c.memory b (ends t p)) bits in
      let here : List Seen = drop (length p * c.outputs) block in
      let e : distance rest (drop (length (branch_outputs (generators_of c) r)) here) ≡ distance rest (drop (suc (length p) * c.outputs) block) =
      ap (distance rest) (next_symbols (length p) r) in
      omega (arith, metric_onward bits (b ∷ p), distance_append (branch_outputs (generators_of c) r) rest here)

  -- from the origin: a whole path costs the distance of its outputs from the block
  metric_bits : (bits : List ℕ) → metric t (reverse bits) ≡ distance (outputs_from (generators_of c) c.memory 0 bits) block
  unfolding ends along
  metric_bits bits = metric_onward bits [] ∙ rw (zero-mul, zero-add)

  -- encode and decode are of one mind: the distance of a message's codeword is its path's metric
  pub metric_codeword : (w : List ℕ) → metric t (path_of t w) ≡ distance (codeword c w) block
  unfolding path_of codeword
  metric_codeword w =
      ap (metric t) (sym (reverse_aux-append w (replicate c.memory 0) [] ∙ reverse_zeros c.memory (reverse w)))
      ∙ metric_bits (with_tail c.memory w)

  -- for the widths of numbers: no metric is above the sum of all weights
  pub metric_total : (p : Path) → metric t p ≤ total_weight block
  metric_total p =
      let outputs : List ℕ = outputs_from (generators_of c) c.memory 0 (reverse p) in
      let e : metric t p ≡ distance outputs block = ap (metric t) (sym (reverse-reverse p)) ∙ metric_bits (reverse p) in
      rw e (distance_total outputs block)
