-- The two words of a row: a row that was packed comes back whole; order words compare as their entries do; the low part of an order
-- word is the node. Assumes nothing.
use mathlib.Core.Path.{◌≡◌, ap, ◌∙◌}
use mathlib.Core.Logic.{◌⊎◌, inl, inr}
use mathlib.Core.Bool.{Bool, true, false, cond}
use Prim.Native.Nat.{ℕ, ◌+◌, ◌*◌, ◌/◌, ◌%◌, ◌<◌}
use native.Mathlib.Omega.{arith}
use lib.Dec.{eqb, ltb}
use borrow.Author.Tests.{eq-eqb, ne_eqb}
use Rattle.lists.proofs.Decides.{said, agree, together, equal, less}
use Rattle.lists.proofs.Lexicographic.{compared}
use Rattle.trellis.specs.Trellis.{node, same}
use Rattle.trellis.specs.Verdict.{entry, earlier, before}
use Rattle.trellis.proofs.Order.{Earlier, earlier_in, earlier_out, Before, before_in, before_out}
use Rattle.store.specs.declared.Held.{Held}
use Rattle.store.specs.Memory.{row_of, Small, states, levels, nodes, counts, inputs, parents, count_place, input_place, parent_place, order_word, rest_word, entry_from, row_from}

-- ---- packed and taken apart

-- the last bit of the other word is one bit
bit_small : (b : Bool) → cond b 1 0 < count_place
bit_small true = omega arith
bit_small false = omega arith

-- and is read as it was written
bit_back : (p i c : ℕ) (b : Bool) → eqb ((p * parent_place + i * input_place + c * count_place + cond b 1 0) % count_place) 1 ≡ b
bit_back p i c true = eq-eqb ((p * parent_place + i * input_place + c * count_place + 1) % count_place) 1 (omega arith)
bit_back p i c false = ne_eqb ((p * parent_place + i * input_place + c * count_place + 0) % count_place) 1 (omega arith)

-- what was written is read
pub row_from_words : (r : Held) → Small r → row_from (order_word r) (rest_word r) ≡ row_of r
unfolding row_from
row_from_words r s =
    let bit : cond r.closed 1 0 < count_place = bit_small r.closed in
    let cost : order_word r / nodes ≡ r.cost = omega arith in
    let level : order_word r / states % levels ≡ r.level = omega arith in
    let state : order_word r % states ≡ r.state = omega arith in
    let count : rest_word r / count_place % counts ≡ r.count = omega arith in
    let high : rest_word r / parent_place ≡ r.parent = omega arith in
    let fits : r.parent % parents ≡ r.parent = omega arith in
    let parent : rest_word r / parent_place % parents ≡ r.parent = ap (λ (x : ℕ). x % parents) high ∙ fits in
    let input : rest_word r / input_place % inputs ≡ r.input = omega arith in
    let closed : eqb (rest_word r % count_place) 1 ≡ r.closed = bit_back r.parent r.input r.count r.closed in
    λ z. record { entry = entry (cost z) (level z) (state z); count = count z; parent = parent z; input = input z; closed = closed z }

-- ---- compared

module _ (a b : ℕ) where
  -- what stands before has the lower order word
  words_out : Before (entry_from a) (entry_from b) → a < b
  words_out (inl h) = omega arith
  words_out (inr h) = go h.0 h.1
    where
      go : a / nodes ≡ b / nodes → Earlier (entry_from a).node (entry_from b).node → a < b
      go e (inl k) = omega arith
      go e (inr k) = omega arith

  -- and back
  words_in : a < b → Before (entry_from a) (entry_from b)
  words_in h = go (compared (a / nodes) (b / nodes)) (compared (a / states % levels) (b / states % levels))
    where
      go : (a / nodes < b / nodes) ⊎ ((a / nodes ≡ b / nodes) ⊎ (b / nodes < a / nodes))
          → (a / states % levels < b / states % levels) ⊎ ((a / states % levels ≡ b / states % levels) ⊎ (b / states % levels < a / states % levels))
          → Before (entry_from a) (entry_from b)
      go (inl k) l = inl k
      go (inr (inl e)) (inl l) = inr (e, inl l)
      go (inr (inl e)) (inr (inl l)) = inr (e, inr (l, omega arith))
      go (inr (inl e)) (inr (inr l)) = absurd (omega arith)
      go (inr (inr k)) l = absurd (omega arith)

  -- so that node order is one comparison, whatever the words are
  pub before_words : before (entry_from a) (entry_from b) ≡ ltb a b
  before_words =
      agree
      (record {
        out = (λ h. words_out (before_out (entry_from a) (entry_from b) h));
        into = (λ h. before_in (entry_from a) (entry_from b) (words_in h));
      })
      (less a b)

  -- level, then state, is one comparison too
  pub earlier_words : earlier (entry_from a).node (entry_from b).node ≡ ltb (a % nodes) (b % nodes)
  earlier_words =
      agree
      (record {
        out = (λ h. number_out (earlier_out (entry_from a).node (entry_from b).node h));
        into = (λ h. earlier_in (entry_from a).node (entry_from b).node (number_in h (compared (a / states % levels) (b / states % levels))));
      })
      (less (a % nodes) (b % nodes))
    where
      number_out : Earlier (entry_from a).node (entry_from b).node → a % nodes < b % nodes
      number_out (inl h) = omega arith
      number_out (inr h) = omega (arith, h.0, h.1)

      number_in : a % nodes < b % nodes
          → (a / states % levels < b / states % levels) ⊎ ((a / states % levels ≡ b / states % levels) ⊎ (b / states % levels < a / states % levels))
          → Earlier (entry_from a).node (entry_from b).node
      number_in h (inl l) = inl l
      number_in h (inr (inl e)) = inr (e, omega arith)
      number_in h (inr (inr l)) = absurd (omega arith)

-- so that level and every bit of the state are one comparison
pub same_words : (order level state : ℕ) → level < levels → state < states
    → same (entry_from order).node (node level state) ≡ eqb (order % nodes) (level * states + state)
same_words order level state h k =
    agree
    (said (together (equal (order / states % levels) level) (equal (order % states) state))
    (λ p. omega (arith, p.0, p.1)) (λ e. (omega (arith, e), omega (arith, e))))
    (equal (order % nodes) (level * states + state))
