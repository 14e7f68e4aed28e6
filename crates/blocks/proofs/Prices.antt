-- The branches as the program prices them: a branch of a node below the top stays within the block, and the distance as a sum over
-- the places of its level; and that what is seen is light. Assumes nothing.
use mathlib.Core.Path.{◌≡◌, refl, sym, ap, ◌∙◌}
use mathlib.Core.List.{List, [], ◌∷◌, map}
use mathlib.Core.Bool.{Bool, true, false, cond}
use Prim.Native.Nat.{ℕ, zero, suc, ◌+◌, ◌*◌, ◌/◌, ◌%◌, ◌≤◌, ◌<◌}
use native.Mathlib.Nat.{mul-le-mul, mul-le-mul_right, mul_comm, suc-mul}
use native.Mathlib.Omega.{arith}
use lib.Dec.{eqb}
use lib.ListN.{length, get_or, take}
use lib.Seq.{take-nil}
use Rattle.std.specs.List.{sum, sum_by, zip}
use Rattle.std.proofs.lemmas.List.Sums.{sum_by-cons, sum-map}
use Rattle.codes.specs.Work.{most_branches}
use Rattle.codes.specs.Codes.{output_bit, branch_outputs}
use Rattle.blocks.specs.Blocks.{distance}
use Rattle.blocks.specs.Bounds.{total_weight, heaviest}
use Rattle.blocks.specs.Packed.{seen_limit, greatest_toll, seen_in, toll_of}
use Rattle.blocks.specs.declared.block.Block.{Block}

-- ---- within the block

-- for every read of a branch's numbers: below the top they are all there
pub branch_within : (n steps level : ℕ) → level < steps → level * n + n ≤ n * steps
branch_within n steps level h = omega (arith, mul-le-mul_right {m = suc level} {n = steps} n h, suc-mul level n, mul_comm n steps)

-- ---- the distance as a sum

distance_added : (register : ℕ) (generators seen : List ℕ)
    → distance (branch_outputs generators register) (seen_in seen) ≡ sum_by (λ p. toll_of (output_bit register p.0) p.1) (zip generators seen)
unfolding distance seen_in
distance_added register [] seen = refl
distance_added register (g ∷ generators) [] = refl
distance_added register (g ∷ generators) (x ∷ seen) =
    ap (λ (d : ℕ). toll_of (output_bit register g) x + d) (distance_added register generators seen)
    ∙ sym (sum_by-cons (λ (p : ℕ × ℕ). toll_of (output_bit register p.0) p.1) (g, x) (zip generators seen))

-- for `distance`: it adds up what each place costs
pub distance_sum : (register : ℕ) (generators seen : List ℕ)
    → sum (map (λ p. toll_of (output_bit register p.0) p.1) (zip generators seen)) ≡ distance (branch_outputs generators register) (seen_in seen)
unfolding distance seen_in
distance_sum register generators seen =
    sum-map (λ (p : ℕ × ℕ). toll_of (output_bit register p.0) p.1) (zip generators seen)
    ∙ sym (distance_added register generators seen)

-- for a branch's part of the block: the symbols behind it cost nothing
pub distance_front : (outputs seen : List ℕ) (n : ℕ) → length outputs ≤ n → distance outputs (seen_in (take n seen)) ≡ distance outputs (seen_in seen)
unfolding distance seen_in
distance_front [] seen n h = refl
distance_front (o ∷ outputs) [] n h = rw (take-nil n) refl
distance_front (o ∷ outputs) (x ∷ seen) zero h = absurd (omega (arith, h))
distance_front (o ∷ outputs) (x ∷ seen) (suc n) h = ap (λ (d : ℕ). toll_of o x + d) (distance_front outputs seen n (omega (arith, h)))

-- a number shows the weight of its half
toll_most : (agrees : Bool) (x : ℕ) → x < seen_limit → cond agrees 0 (x / 2) ≤ greatest_toll
toll_most true x h = omega arith
toll_most false x h = omega (arith, h)

-- for a price: what its places cost in all
pub distance_most : (outputs seen : List ℕ) → ((i : ℕ) → get_or seen i 0 < seen_limit) → distance outputs (seen_in seen) ≤ length outputs * greatest_toll
unfolding distance seen_in
distance_most [] seen h = omega arith
distance_most (o ∷ outputs) [] h = omega arith
distance_most (o ∷ outputs) (x ∷ seen) h =
    omega (arith, toll_most (eqb o (x % 2)) x (h 0), distance_most outputs seen (λ i. h (suc i)))

-- ---- what is seen is light

-- each weight is half of its number
numbers_total : (numbers : List ℕ) → ((i : ℕ) → get_or numbers i 0 < seen_limit) → total_weight (seen_in numbers) ≤ greatest_toll * length numbers
unfolding total_weight seen_in
numbers_total [] f = omega arith
numbers_total (x ∷ numbers) f = omega (arith, f 0, numbers_total numbers (λ i. f (suc i)))

-- for a block: whatever its numbers are, it weighs less than the heaviest
pub seen_light : (b : Block) → total_weight (seen_in b.seen.now) < heaviest
seen_light b =
    let steps : b.bits + b.machine.memory ≤ most_branches = omega (arith, b.span, b.machine.memory_few) in
    omega (arith, numbers_total b.seen.now b.narrow, b.full, mul-le-mul b.machine.outputs_few steps)
