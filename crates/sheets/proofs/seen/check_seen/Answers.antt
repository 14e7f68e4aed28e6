-- `seen::check_seen` meets its contract: each test decides a row of the definition, in its order. Assumes nothing.
use mathlib.Core.Path.{◌≡◌, sym, ap, ap₂, ◌∙◌}
use mathlib.Core.List.{List, ◌++◌}
use mathlib.Core.Bool.{true}
use Prim.Native.Nat.{ℕ}
use native.Mathlib.Omega.{arith}
use lib.ListN.{length, take, drop}
use lib.Seq.{take_at}
use Rattle.std.proofs.Common.{refl}
use Rattle.lists.proofs.Writing.{sets_front}
use Rattle.desk.specs.Desk.{handed, told_by}
use Rattle.blocks.specs.Machines.{trellis_under}
use Rattle.blocks.proofs.Asked.{block_span}
use Rattle.sheets.specs.Bytes.{series, bit_at, sheet_read}
use Rattle.sheets.specs.Checking.{accepted}
use Rattle.sheets.specs.Work.{formed_for}
use Rattle.sheets.proofs.Series.{length_series}
use Rattle.sheets.proofs.Rows.{formed_good, passed_accepted}
use Rattle.sheets.proofs.seen.check_seen.Goals as goal

pub take_message-requires-clause-whole : goal.take_message-requires-clause-whole
take_message-requires-clause-whole c =
    (formed_good c.args.block.now c.args.sheet.now (λ i. (c.type_inv.sheet i).fits) c.requires.some (sym c.formed.ensures ∙ c.if-not-formed.false)).whole

pub take_message-requires-2-clause-whole : goal.take_message-requires-2-clause-whole
take_message-requires-2-clause-whole c =
    (formed_good c.args.block.now c.args.sheet.now (λ i. (c.type_inv.sheet i).fits) c.requires.some (sym c.formed.ensures ∙ c.if-not-formed.false)).whole

pub carries-requires-clause-own : goal.carries-requires-clause-own
unfolding sheet_read
carries-requires-clause-own c =
    let b = c.args.block.now in
    let bits : List ℕ = series b.bits (bit_at c.args.sheet.now) in
    let n : length bits ≡ b.bits = length_series b.bits (bit_at c.args.sheet.now) in
    ap (take b.bits) (c.take_message.ensures ∙ sets_front _ bits (omega (arith, n, b.span))) ∙ take_at bits _ b.bits n

pub read-requires : goal.read-requires
read-requires c =
    (formed_good c.args.block.now c.args.sheet.now (λ i. (c.type_inv.sheet i).fits) c.requires.some (sym c.formed.ensures ∙ c.if-not-formed.false)).front

pub returns : goal.returns
unfolding told_by sheet_read
returns c =
    let b = c.args.block.now in
    let t = trellis_under b in
    let bytes = c.args.sheet.now in
    let message = c.args.message.now in
    let bits : List ℕ = (sheet_read b.bits bytes).message in
    let n : length bits ≡ b.bits = length_series b.bits (bit_at bytes) in
    let written : c.take_message-2.new.message ≡ bits ++ drop t.span message =
    c.take_message-2.ensures
    ∙ sets_front message bits (omega (arith, n, c.requires.room))
    ∙ ap (λ (k : ℕ). bits ++ drop k message) (n ∙ sym (block_span b)) in
    ap₂ (λ (m : ℕ) (w : List ℕ). handed (accepted m) w) c.read.ensures.metric written
    ∙ sym (passed_accepted true true (formed_for b bytes) t (sheet_read b.bits bytes) message (record {
      lawful = refl;
      fits = refl;
      formed = sym c.formed.ensures ∙ c.if-not-formed.false;
      claim = sym c.carries.ensures ∙ c.if-not-carries.false;
    }))
