-- `Claim::entries_pass` meets its contract: the chain asks every entry, and each is inside the trellis. Assumes nothing.
use Rattle.std.proofs.Common.{rules, tests, arith, sym, ap, true, ◌≡◌, ◌∙◌}
use Rattle.std.proofs.lemmas.Iterator.{YieldsList-from_slice}
use Rattle.std.proofs.lemmas.Iterator.Search.{all_from_yields_List}
use Rattle.std.proofs.lemmas.Iterator.Adapters.{serves_from_places}
use mathlib.Core.List.{List}
use mathlib.Core.Bool.{Bool}
use Prim.Native.Nat.{ℕ}
use Rattle.blocks.specs.Machines.{states_of, trellis_under}
use Rattle.sheets.specs.Bytes.{entry_at}
use Rattle.sheets.specs.Work.{entries_in, all_passing}
use Rattle.sheets.specs.Checking.{inside}
use Rattle.trellis.specs.Trellis.{top}
use Rattle.trellis.specs.Verdict.{Entry}
use Rattle.lists.proofs.Scan.{all_within}
use Rattle.trellis.proofs.Listing.{no_entry}
use Rattle.sheets.proofs.Listing.{all_listed, length_entries_in, entries_in_any}
use Rattle.sheets.proofs.claim.Claim.entries_pass.Goals as goal

pub all-requires : goal.all-requires
all-requires c = record {
  can = tt;
  finite = tt;
  callable = serves_from_places (YieldsList-from_slice c.args.self.now.entries.now cc) (λ x q k. search rules) (λ x k lt e.
      let s = c.args.self.now in
      let test : Entry → Bool = inside (top (trellis_under s.block)) (states_of s.block.machine) in
      let within : test (entry_at x.now 0) ≡ true =
      ap test (ap (λ (b : List ℕ). entry_at b 0) e ∙ sym (entries_in_any s.entries.now k x.now lt))
      ∙ all_within test (entries_in s.entries.now) no_entry k (omega (arith, length_entries_in s.entries.now)) s.sound.inside in
      search (rules, tests));
}

pub returns : goal.returns
returns c =
    let s = c.args.self.now in
    let test : List ℕ → Bool = λ b. all_passing (trellis_under s.block) (entries_in s.entries.now) s.metric s.path.now (entry_at b 0) in
    all_from_yields_List test _ _ _ c.all.ensures.ran (YieldsList-from_slice s.entries.now cc) (λ x b q k. search (rules, tests))
    ∙ all_listed _ s.entries.now
