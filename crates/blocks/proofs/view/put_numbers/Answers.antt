-- `view::put_numbers` meets its contract: writing the numbers that are left over the buffer as it is gives all of them (the record
-- Filling), and those that are written are small. Assumes nothing.
use mathlib.Core.Path.{◌≡◌, sym, ap, ◌∙◌, subst}
use Prim.Native.Nat.{ℕ, ◌+◌, ◌*◌, ◌<◌}
use native.Mathlib.Decide.{dec_lt, ℕ_discrete}
use native.Mathlib.Nat.{zero-add}
use native.Mathlib.Omega.{arith}
use lib.IntN.{ℤ, pos}
use lib.ListN.{get_or, get_or-eq_default}
use Rattle.std.proofs.Common.{rules}
use Rattle.lists.proofs.Writing.{filling_next, filling_done}
use Rattle.blocks.specs.Symbols.{hard_bit, weight, view}
use Rattle.blocks.specs.Packed.{seen_limit, packed}
use Rattle.blocks.proofs.Bytes.{byte_back}
use Rattle.blocks.proofs.Packing.{packed_at, length_packed}
use Rattle.blocks.proofs.view.put_numbers.Goals as goal

pub loop-i-preserved : goal.loop-i-preserved
loop-i-preserved c =
    let symbols = c.args.symbols.now in
    let i = c.loop-i.i in
    let z = get_or symbols i (pos 0) in
    let g = c.loop-i.invariant in
    let v : c.number.result ≡ get_or (packed (view symbols)) i 0 =
    c.number.ensures.is
    ∙ ap (λ (x : ℤ). weight x * 2 + hard_bit x) (byte_back z (search rules))
    ∙ sym (packed_at symbols i) in
    let small : get_or (packed (view symbols)) i 0 < seen_limit = subst (λ (x : ℕ). x < seen_limit) v c.number.ensures.narrow in
    record {
      filling = rw v (simp zero-add at (filling_next 0 (omega (arith, length_packed symbols)) g.filling));
      narrow = λ j h. behind i j (packed (view symbols)) g.narrow small h;
    }
  where
    behind : (i j : ℕ) (numbers : _) → ((k : ℕ) → k < i → get_or numbers k 0 < seen_limit) → get_or numbers i 0 < seen_limit → j < i + 1
        → get_or numbers j 0 < seen_limit
    behind i j numbers h s k = go (ℕ_discrete j i)
      where
        go : Dec (j ≡ i) → get_or numbers j 0 < seen_limit
        go (yes e) = rw e s
        go (no n) = h j (omega arith)

pub returns-clause-numbers : goal.returns-clause-numbers
returns-clause-numbers c = filling_done (omega (arith, length_packed c.args.symbols.now, c.loop-i-test.false)) c.loop-i.invariant.filling

pub returns-clause-narrow : goal.returns-clause-narrow
returns-clause-narrow c i = go (dec_lt i c.loop-i.i)
  where
    go : Dec (i < c.loop-i.i) → get_or (packed (view c.args.symbols.now)) i 0 < seen_limit
    go (yes h) = c.loop-i.invariant.narrow i h
    go (no n) =
        let past : get_or (packed (view c.args.symbols.now)) i 0 ≡ 0 =
        get_or-eq_default (packed (view c.args.symbols.now)) 0 (omega (arith, length_packed c.args.symbols.now, c.loop-i-test.false)) in
        omega (arith, past)
