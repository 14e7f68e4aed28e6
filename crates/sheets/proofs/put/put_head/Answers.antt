-- `put::put_head` meets its contract: the numbers one after the other. Assumes nothing.
use mathlib.Core.Path.{sym, ap, ◌∙◌}
use mathlib.Core.List.{List, ◌++◌}
use Prim.Native.Nat.{ℕ, ◌-◌}
use lib.Seq.{sets}
use Rattle.lists.proofs.Writing.{sets_append}
use Rattle.sheets.specs.Bytes.{bytes_of, kind}
use Rattle.sheets.specs.Work.{sheet_size, head_bytes}
use Rattle.sheets.proofs.Numbers.{two_put, four_put}
use Rattle.sheets.proofs.put.put_head.Goals as goal

pub returns : goal.returns
unfolding bytes_of head_bytes
returns c =
    let out : List ℕ = c.args.out.now in
    let size : List ℕ = bytes_of 4 (sheet_size c.args.length c.args.count - 4) in
    let sort : List ℕ = bytes_of 2 kind in
    let span : List ℕ = bytes_of 2 c.args.length in
    let metric : List ℕ = bytes_of 4 c.args.metric in
    let count : List ℕ = bytes_of 2 c.args.count in
    two_put _ _ _ c.to_le_bytes-5.ensures c.put_bytes-5.ensures
    ∙ ap (λ (l : List ℕ). sets l 12 count)
    (four_put _ _ _ c.to_le_bytes-4.ensures c.put_bytes-4.ensures
    ∙ ap (λ (l : List ℕ). sets l 8 metric)
    (two_put _ _ _ c.to_le_bytes-3.ensures c.put_bytes-3.ensures
    ∙ ap (λ (l : List ℕ). sets l 6 span)
    (two_put kind _ _ c.to_le_bytes-2.ensures c.put_bytes-2.ensures
    ∙ ap (λ (l : List ℕ). sets l 4 sort)
    (four_put _ _ _ c.to_le_bytes.ensures c.put_bytes.ensures ∙ ap (λ (k : ℕ). sets out 0 (bytes_of 4 (k - 4))) c.sheet_size-size.ensures))
    ∙ sym (sets_append (sets out 0 size) sort span 4))
    ∙ sym (sets_append (sets out 0 size) (sort ++ span) metric 4))
    ∙ sym (sets_append (sets out 0 size) (sort ++ span ++ metric) count 4)
    ∙ sym (sets_append out size (sort ++ span ++ metric ++ count) 0)
