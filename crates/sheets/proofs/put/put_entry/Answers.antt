-- `put::put_entry` meets its contract: level, state and cost one after the other. Assumes nothing.
use mathlib.Core.Path.{sym, ap, ◌∙◌}
use mathlib.Core.List.{List, ◌++◌}
use Prim.Native.Nat.{ℕ, ◌+◌}
use lib.Seq.{sets}
use Rattle.lists.proofs.Writing.{sets_append}
use Rattle.sheets.specs.Bytes.{bytes_of}
use Rattle.sheets.proofs.Numbers.{two_put, four_put}
use Rattle.sheets.proofs.put.put_entry.Goals as goal

pub returns : goal.returns
unfolding bytes_of
returns c =
    let at : ℕ = c.args.at in
    let level : List ℕ = bytes_of 2 c.args.level in
    let state : List ℕ = bytes_of 2 c.args.state in
    let cost : List ℕ = bytes_of 4 c.args.cost in
    four_put _ _ _ c.to_le_bytes-3.ensures c.put_bytes-3.ensures
    ∙ ap (λ (l : List ℕ). sets l (at + 4) cost)
    (two_put _ _ _ c.to_le_bytes-2.ensures c.put_bytes-2.ensures
    ∙ ap (λ (l : List ℕ). sets l (at + 2) state) (two_put _ _ _ c.to_le_bytes.ensures c.put_bytes.ensures)
    ∙ sym (sets_append c.args.out.now level state at))
    ∙ sym (sets_append c.args.out.now (level ++ state) cost at)
