-- What the code rule says, as bounds, and that the house codes keep it. Assumes nothing.
use mathlib.Core.Path.{◌≡◌, refl, ap}
use mathlib.Core.Bool.{Bool, true, ◌&&◌}
use mathlib.Core.List.{List, [], ◌∷◌}
use Prim.Native.Nat.{ℕ, ◌+◌, ◌-◌, ◌^◌, ◌≤◌, ◌<◌}
use native.Mathlib.Nat.{mul-le-mul_right}
use native.Mathlib.Omega.{arith}
use borrow.Author.Tests.{leb-true}
use lib.Dec.{leb}
use lib.ListN.{length, get_or}
use Rattle.std.specs.List.{list_all}
use Rattle.lists.specs.Lists.{all}
use Rattle.lists.proofs.Scan.{all_within, all_get_or}
use Rattle.lists.proofs.Tests.{both}
use Rattle.codes.specs.Codes.{from, generators_of, lawful, house_codes, house_code, block_length}
use Rattle.codes.specs.Encoding.{is_bit}
use Rattle.codes.specs.Work.{longest_block, Encodable}
use Rattle.codes.specs.Limits.{fewest_outputs, most_outputs, least_memory, most_memory, longest_message}
use Rattle.codes.specs.declared.table.Code.{Code}

-- for tests by a chain of iterators: the library's `all` of a list is ours
pub all_listed : {A : Type 0} (p : A → Bool) (l : List A) → list_all p l ≡ all p l
unfolding all
all_listed p [] = refl
all_listed p (x ∷ l) = ap (λ (b : Bool). p x && b) (all_listed p l)

-- for every number between two bounds
pub from_out : (low high x : ℕ) → from low high x ≡ true → (low ≤ x) × (x ≤ high)
from_out low high x h = let p = both (leb low x) (leb x high) h in (leb-true low x p.0, leb-true x high p.1)

-- what the rule says, a bound a field
pub record Bounds (c : Code) : Type 0 where
  pub outputs_least : fewest_outputs ≤ c.outputs
  pub outputs_most : c.outputs ≤ most_outputs
  pub memory_least : least_memory ≤ c.memory
  pub memory_most : c.memory ≤ most_memory
  pub generators : all (from 1 (2 ^ (c.memory + 1) - 1)) (generators_of c) ≡ true

-- for every function that goes on after the code rule
pub lawful_out : (c : Code) → lawful c ≡ true → Bounds c
unfolding lawful
lawful_out c h =
    let p = both (from fewest_outputs most_outputs c.outputs && from least_memory most_memory c.memory) _ h in
    let q = both (from fewest_outputs most_outputs c.outputs) (from least_memory most_memory c.memory) p.0 in
    let n = from_out fewest_outputs most_outputs c.outputs q.0 in
    let m = from_out least_memory most_memory c.memory q.1 in
    record { outputs_least = n.0; outputs_most = n.1; memory_least = m.0; memory_most = m.1; generators = p.1 }

-- 'A block has N = n(L+m) symbols, at most 864.'
pub longest_block_lem : longest_block ≡ 864
longest_block_lem = refl

pub block_short : (c : Code) (l : ℕ) → lawful c ≡ true → l ≤ longest_message → block_length c l ≤ longest_block
block_short c l h k =
    let b = lawful_out c h in
    omega (arith, b.memory_most, mul-le-mul_right (l + c.memory) b.outputs_most)

-- ---- what `encode` has tested before it writes

module _ {c : Code} {message : List ℕ} {room : ℕ} (k : lawful c ≡ true) (e : Encodable c message room) where
  -- for the generators that count
  pub outputs_few : c.outputs ≤ most_outputs
  outputs_few = (lawful_out c k).outputs_most

  -- for the register
  pub memory_few : c.memory ≤ most_memory
  memory_few = (lawful_out c k).memory_most

  -- for the places in the buffer
  pub room_enough : block_length c (length message) ≤ room
  room_enough = leb-true _ _ (both _ _ e.sizes).1

  -- for every read of the message: at any place of it, and past it, stands a bit
  pub bit_small : (i : ℕ) → get_or message i 0 ≤ 1
  bit_small i = leb-true _ 1 (all_get_or is_bit message 0 i refl e.bits)

-- ---- the house codes

-- The table's rule, once over the table: by computation every row keeps the rules, and so the code of each row does.
house_rows : all lawful house_codes ≡ true
unfolding all lawful house_codes
house_rows = refl

-- for whoever takes a code from the table: no operation refuses it 1
pub house_lawful : (row : ℕ) → row < 4 → lawful (house_code row) ≡ true
unfolding house_codes house_code
house_lawful row h = all_within lawful house_codes _ row h house_rows
