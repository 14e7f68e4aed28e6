-- `bytes::put_bytes` meets its contract: the part that was copied to, between the others. Assumes nothing.
use mathlib.Core.Path.{refl, sym, ap, ◌∙◌}
use mathlib.Core.List.{List, ◌++◌}
use Prim.Native.Nat.{ℕ, ◌+◌}
use native.Mathlib.Omega.{arith}
use lib.ListN.{length, take, drop}
use lib.Seq.{take_all, sets-eq}
use Rattle.std.proofs.lemmas.Slice.{put_mid-paste}
use Rattle.sheets.proofs.bytes.put_bytes.Goals as goal

pub returns : goal.returns
returns c =
    let out : List ℕ = c.args.out.now in
    let bytes : List ℕ = c.args.bytes.now in
    put_mid-paste c.args.at _ out _ bytes (length bytes) c.copy_from_slice.ensures.after (omega arith) refl
    ∙ ap (λ (t : List ℕ). take c.args.at out ++ t ++ drop (c.args.at + length bytes) out) (take_all (length bytes) bytes (omega arith))
    ∙ sym (sets-eq bytes out c.args.at c.requires)
