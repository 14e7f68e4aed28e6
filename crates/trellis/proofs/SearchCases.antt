-- Law 8 by computation: document 01's cases 4 to 11, run by the search over a small trellis written here, give the paper's numbers. The
-- same cases of the definitions stand in the list of starred cases, not here. Assumes nothing.
use mathlib.Core.Path.{◌≡◌, refl}
use mathlib.Core.List.{List, [], ◌∷◌}
use mathlib.Core.Bool.{cond}
use Prim.Native.Nat.{ℕ, ◌+◌, ◌*◌, ◌/◌, ◌%◌}
use lib.Dec.{eqb}
use lib.ListN.{get_or}
use Rattle.lists.specs.Lists.{below}
use Rattle.trellis.specs.Trellis.{Trellis, allowed}
use Rattle.trellis.specs.Verdict.{Verdict, answered, room_short, allowance_spent, tied}
use Rattle.trellis.specs.Search.{find_row, first_by, first_open, entered, relax, onward, fan, expand, run, searched, trace, read, verdict_of}

-- code 7, 5 with one message bit, over a block given as hard bits and weights
abbrev small : List ℕ → List ℕ → Trellis
small hard weights = record {
  span = 1;
  tail = 2;
  inputs = 2;
  next = (λ s b. (b * 4 + s) / 2);
  price = (λ l s b.
      cond (eqb ((b + s / 2 + s) % 2) (get_or hard (l * 2) 0)) 0 (get_or weights (l * 2) 0) +
      cond (eqb ((b + s) % 2) (get_or hard (l * 2 + 1) 0)) 0 (get_or weights (l * 2 + 1) 0));
}

-- what the search answers, with the least cap
abbrev answer : Trellis → ℕ → ℕ → Verdict
answer t room allowance = verdict_of t (searched t 2 room allowance)

-- 3 -5 -2 1 -4 -6
abbrev fourth : Trellis
fourth = small (0 ∷ 1 ∷ 1 ∷ 0 ∷ 1 ∷ 1 ∷ []) (3 ∷ 5 ∷ 2 ∷ 1 ∷ 4 ∷ 6 ∷ [])

-- six zeros
abbrev zeros : Trellis
zeros = small (0 ∷ 0 ∷ 0 ∷ 0 ∷ 0 ∷ 0 ∷ []) (0 ∷ 0 ∷ 0 ∷ 0 ∷ 0 ∷ 0 ∷ [])

-- -1 -1 2 9 0 0
abbrev eleventh : Trellis
eleventh = small (1 ∷ 1 ∷ 0 ∷ 0 ∷ 0 ∷ 0 ∷ []) (1 ∷ 1 ∷ 2 ∷ 9 ∷ 0 ∷ 0 ∷ [])

-- what the search answers, and what the paper says
pub cases :
    (answer fourth 5 3 ∷ answer fourth 4 3 ∷ answer fourth 4 2 ∷ answer fourth 3 2 ∷ answer fourth 0 3 ∷ answer fourth 1 0 ∷
    answer zeros 6 5 ∷ answer eleventh 6 5 ∷ []) ≡
    (answered (1 ∷ []) 3 3 ∷ room_short 2 ∷ allowance_spent 2 ∷ room_short 1 ∷ room_short 0 ∷ allowance_spent 0 ∷
    tied 0 5 ∷ tied 2 5 ∷ [])
unfolding below allowed find_row first_by first_open entered relax onward fan expand run searched trace read
cases = refl
