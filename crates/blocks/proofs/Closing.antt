-- The trellis of any code is lawful, whatever its memory: states stay below 2^m, and each zero of the tail halves what is left.
-- What the branches cost plays no part. Assumes nothing.
use mathlib.Core.Path.{◌≡◌, refl, subst}
use mathlib.Core.List.{List}
use mathlib.Core.Bool.{Bool, true, false, cond}
use Prim.Native.Nat.{ℕ, zero, suc, ◌+◌, ◌*◌, ◌^◌, ◌≤◌, ◌<◌}
use native.Mathlib.Nat.{mul-le-mul_right, pow-zero, pow-suc, mul_assoc, mul_comm}
use native.Mathlib.Omega.{arith}
use lib.Dec.{ltb}
use lib.Pow.{pow_pos}
use lib.ListN.{length}
use Rattle.codes.specs.declared.table.Code.{Code}
use Rattle.codes.specs.Codes.{next_state}
use Rattle.codes.proofs.Registers.{next_below}
use Rattle.trellis.specs.Trellis.{Trellis, Path, allowed, ends}
use Rattle.trellis.specs.Lawful.{Allowed, start, step, Lawful}
use Rattle.trellis.proofs.Paths.{allowed_tail, allowed_top}
use Rattle.blocks.specs.Symbols.{Seen}
use Rattle.blocks.specs.Blocks.{trellis_of}

-- a zero input halves the state
halved : (m k s : ℕ) → s * 2 ^ k < 2 ^ m → next_state m 0 s * 2 ^ suc k < 2 ^ m
halved m k s h =
    let d : next_state m 0 s * 2 * 2 ^ k ≤ s * 2 ^ k = mul-le-mul_right (2 ^ k) (omega arith) in
    rw (pow-suc 2 k, mul_comm (2 ^ k) 2, ← mul_assoc (next_state m 0 s) 2 (2 ^ k)) (omega arith)

module _ (c : Code) (l : ℕ) (block : List Seen) where
  -- the trellis in question
  abbrev t : Trellis
  t = trellis_of c l block

  -- for the register: every input is a bit
  pub input_bit : (level b : ℕ) → b < allowed t level → b ≤ 1
  unfolding allowed
  input_bit level b h = go (ltb level l) (ltb level (l + c.memory)) h
    where
      go : (p q : Bool) → b < cond p 2 (cond q 1 0) → b ≤ 1
      go true q h = omega arith
      go false true h = omega arith
      go false false h = omega arith

  -- for the tail: there it is 0
  pub input_tail : (k b : ℕ) → b < allowed t (l + k) → b ≡ 0
  input_tail k b h = let e : allowed t (l + k) ≡ 1 = allowed_tail t (l + k) (omega arith) (allowed_top t (l + k) b h) in omega arith

  -- for the sheet and the store, which keep a state in two bytes: 'The state is a number below 2^m'
  pub state_below : {p : Path} → Allowed t p → ends t p < 2 ^ c.memory
  unfolding ends
  state_below start = pow_pos c.memory
  state_below (step {b = b} {p = p} u al) = next_below c.memory b (ends t p) (input_bit (length p) b u) (state_below al)

  -- k zeros after the message leave less than 2^(m - k)
  emptied : (k : ℕ) {p : Path} → Allowed t p → length p ≡ l + k → ends t p * 2 ^ k < 2 ^ c.memory
  unfolding ends
  emptied zero al e = let s = state_below al in rw pow-zero (omega arith)
  emptied (suc k) start e = absurd (omega arith)
  emptied (suc k) (step {b = b} {p = p} u al) e =
      let n : length p ≡ l + k = omega arith in
      rw (input_tail k b (subst (λ (x : ℕ). b < allowed t x) n u)) (halved c.memory k (ends t p) (emptied k al n))

  -- for every law of the verdict
  pub trellis_lawful : Lawful (trellis_of c l block)
  trellis_lawful = record { closes = (λ p al e. go (ends t p) (emptied c.memory al e)); wide = omega arith }
    where
      go : (s : ℕ) → s * 2 ^ c.memory < 2 ^ c.memory → s ≡ 0
      go zero h = refl
      go (suc s) h = absurd (omega (arith, mul-le-mul_right {m = 1} {n = suc s} (2 ^ c.memory) (omega arith)))
