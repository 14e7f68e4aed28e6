-- `form::framed` meets its contract: each test is a part of the frame. Assumes nothing.
use mathlib.Core.Path.{◌≡◌, sym, ap, ap₂, ◌∙◌}
use Prim.Native.Nat.{ℕ, ◌+◌, ◌-◌, ◌*◌, ◌%◌, ◌^◌}
use native.Mathlib.Omega.{arith}
use lib.Dec.{eqb}
use lib.ListN.{get_or}
use lib.Pow.{shl_exact}
use Rattle.lists.proofs.Decides.{said, equal, agree, decided_no}
use Rattle.sheets.specs.Bytes.{message_size, message_place, entries_place}
use Rattle.sheets.proofs.Frame.{Framed, framed_test}
use Rattle.sheets.proofs.form.framed.Goals as goal

pub returns-then-size-place : goal.returns-then-size-place
returns-then-size-place c =
    let test = framed_test c.args.length c.args.sheet.now (λ i. (c.type_inv.sheet i).fits) c.requires.some c.requires.span in
    sym (decided_no test (λ f. absurd (omega (arith, f.size, c.entries_place-place.ensures))))

pub returns-then-size-place-2 : goal.returns-then-size-place-2
returns-then-size-place-2 c =
    let test = framed_test c.args.length c.args.sheet.now (λ i. (c.type_inv.sheet i).fits) c.requires.some c.requires.span in
    let place_is : c.entries_place-place.result ≡ entries_place c.args.length = c.entries_place-place.ensures in
    sym (decided_no test (λ f. c.if-size-place-2.true (omega (arith, f.size, place_is, c.read-head.ensures.count))))

pub returns-then-head-size : goal.returns-then-head-size
returns-then-head-size c =
    let test = framed_test c.args.length c.args.sheet.now (λ i. (c.type_inv.sheet i).fits) c.requires.some c.requires.span in
    sym (decided_no test (λ f. c.if-head-size.true (omega (arith, f.follow, c.read-head.ensures.follow))))

pub returns-then-head-ne-KIND : goal.returns-then-head-ne-KIND
returns-then-head-ne-KIND c =
    let test = framed_test c.args.length c.args.sheet.now (λ i. (c.type_inv.sheet i).fits) c.requires.some c.requires.span in
    sym (decided_no test (λ f. c.if-head-ne-KIND.true (c.read-head.ensures.kind ∙ f.kind)))

pub returns-then-head-length : goal.returns-then-head-length
returns-then-head-length c =
    let test = framed_test c.args.length c.args.sheet.now (λ i. (c.type_inv.sheet i).fits) c.requires.some c.requires.span in
    sym (decided_no test (λ f. c.if-head-length.true (c.read-head.ensures.span ∙ f.span)))

pub returns : goal.returns
returns c =
    let test = framed_test c.args.length c.args.sheet.now (λ i. (c.type_inv.sheet i).fits) c.requires.some c.requires.span in
    let place_is : c.entries_place-place.result ≡ entries_place c.args.length = c.entries_place-place.ensures in
    let spare_bits : ℕ = 8 * (c.entries_place-place.result - 14) - c.args.length in
    let spare_is : let l = c.args.length in spare_bits ≡ 8 * message_size l - l = omega (arith, place_is) in
    let shifted : 1 * 2 ^ spare_bits % 4294967296 ≡ 2 ^ spare_bits = let l = c.args.length in
    omega (arith, shl_exact {a = 1} 1 spare_bits 32 (omega arith) (omega (arith, spare_is, c.requires.some))) in
    let framed_but : let l = c.args.length in get_or c.args.sheet.now (message_place + (message_size l - 1)) 0 % 2 ^ (8 * message_size l - l) ≡ 0 → Framed l c.args.sheet.now = λ spare. record {
      size = omega (arith, c.if-size-place-2.false, place_is, c.read-head.ensures.count);
      follow = omega (arith, c.if-head-size.false, c.read-head.ensures.follow, c.if-size-place.false, place_is);
      kind = sym c.read-head.ensures.kind ∙ c.if-head-ne-KIND.false;
      span = sym c.read-head.ensures.span ∙ c.if-head-length.false;
      spare = spare;
    } in
    let l = c.args.length in
    let bytes = c.args.sheet.now in
    let at : c.entries_place-place.result - 1 ≡ message_place + (message_size l - 1) = omega (arith, place_is, c.requires.some) in
    ap₂ (λ (i b : ℕ). eqb (get_or bytes i 0 % b) 0) at (shifted ∙ ap (λ (j : ℕ). 2 ^ j) spare_is)
    ∙ agree (said (equal (get_or bytes (message_place + (message_size l - 1)) 0 % 2 ^ (8 * message_size l - l)) 0) framed_but (λ f. f.spare)) test
