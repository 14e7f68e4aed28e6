-- What search and check ask of a block as it was seen, by name: its trellis is lawful, a state is below the number of states, a metric
-- below the heaviest, an allowed input can be priced, and the state that is entered tells the input. Assumes nothing.
use mathlib.Core.Path.{◌≡◌, refl}
use Prim.Native.Nat.{ℕ, zero, suc, ◌+◌, ◌^◌, ◌≤◌, ◌<◌}
use native.Mathlib.Omega.{arith}
use lib.Pow.{pow_mono}
use Rattle.codes.specs.Work.{most_branches}
use Rattle.codes.specs.Codes.{next_state}
use Rattle.trellis.specs.Trellis.{Trellis, Path, top, allowed, ends, metric}
use Rattle.trellis.specs.Lawful.{Allowed, Lawful}
use Rattle.blocks.specs.Blocks.{trellis_of}
use Rattle.blocks.specs.Bounds.{heaviest}
use Rattle.blocks.specs.Machines.{code_under, states_of, inputs_of, trellis_at, trellis_under}
use Rattle.blocks.specs.Packed.{seen_in}
use Rattle.blocks.specs.declared.block.Block.{Block}
use Rattle.blocks.proofs.Closing.{input_bit, state_below, trellis_lawful}
use Rattle.blocks.proofs.Distance.{metric_total}
use Rattle.blocks.proofs.Machines.{machine_trellis, states_one}
use Rattle.blocks.proofs.Prices.{seen_light}

-- two branches of a code from one state into one state have the same input
next_input : (m b a s : ℕ) → 1 ≤ m → b ≤ 1 → a ≤ 1 → next_state m b s ≡ next_state m a s → b ≡ a
next_input m zero zero s h i k e = refl
next_input m (suc zero) (suc zero) s h i k e = refl
next_input m zero (suc zero) s h i k e = absurd (omega (arith, pow_mono {i = 1} {j = m} h))
next_input m (suc zero) zero s h i k e = absurd (omega (arith, pow_mono {i = 1} {j = m} h))
next_input m (suc (suc b)) a s h i k e = absurd (omega arith)
next_input m zero (suc (suc a)) s h i k e = absurd (omega arith)
next_input m (suc zero) (suc (suc a)) s h i k e = absurd (omega arith)

module _ (b : Block) where
  -- the block's trellis, and that of the code it is made of
  abbrev t : Trellis
  t = trellis_under b

  own : t ≡ trellis_of (code_under b.machine) b.bits (seen_in b.seen.now)
  own = machine_trellis b.machine b.bits (seen_in b.seen.now)

  -- for every law of the verdict
  pub block_lawful : Lawful (trellis_under b)
  block_lawful = rw own (trellis_lawful (code_under b.machine) b.bits (seen_in b.seen.now))

  -- for every row and every visit: its state is one of the machine's
  pub block_state : {p : Path} → Allowed (trellis_under b) p → ends (trellis_under b) p < states_of b.machine
  block_state {p} = rw (own, states_one b.machine) (state_below (code_under b.machine) b.bits (seen_in b.seen.now) {p = p})

  -- a state fits two bytes
  pub states_few : states_of b.machine ≤ 2 ^ 16
  states_few = rw (states_one b.machine) (pow_mono b.machine.memory_few)

  -- for every cost: no path costs more than the block weighs
  pub block_light : (p : Path) → metric (trellis_under b) p < heaviest
  block_light p =
      rw own (omega (
        arith,
        metric_total (code_under b.machine) b.bits (seen_in b.seen.now) (omega (arith, b.machine.four, b.machine.outputs_few)) p,
        seen_light b,
      ))

  -- for every branch that is taken: an allowed input is one of the trellis's
  pub input_below : (level input : ℕ) → input < allowed (trellis_under b) level → input < (trellis_under b).inputs
  unfolding trellis_at
  input_below level input h =
      let one = input_bit (code_under b.machine) b.bits (seen_in b.seen.now) level input (rw own at h) in
      rw b.machine.one (omega (arith, one))

  -- the machine's inputs are the trellis's
  pub input_one : (input : ℕ) → input < (trellis_under b).inputs → input < inputs_of b.machine
  unfolding trellis_at
  input_one input h = h

  -- of which there are few
  pub inputs_few : (trellis_under b).inputs ≤ 2
  unfolding trellis_at
  inputs_few = rw b.machine.one (omega arith)

  -- for a message's bits: each is an input
  pub bit_input : (bit : ℕ) → bit ≤ 1 → bit < (trellis_under b).inputs
  unfolding trellis_at
  bit_input bit h = rw b.machine.one (omega (arith, h))

  -- the terminal's level
  pub block_top : top (trellis_under b) ≡ b.bits + b.machine.memory
  unfolding trellis_at
  block_top = refl

  -- L is the number of bits
  pub block_span : (trellis_under b).span ≡ b.bits
  unfolding trellis_at
  block_span = refl

  -- and no level is above this one
  pub top_few : top (trellis_under b) ≤ most_branches
  top_few = rw block_top (omega (arith, b.span, b.machine.memory_few))

  -- for D: the state that is entered tells the input
  pub entered : (state input other : ℕ) → input < (trellis_under b).inputs → other < (trellis_under b).inputs
      → (trellis_under b).next state input ≡ (trellis_under b).next state other → input ≡ other
  unfolding trellis_at
  entered state input other h k e =
      next_input b.machine.memory input other state b.machine.memory_some (omega (arith, inputs_few, h)) (omega (arith, inputs_few, k)) e
