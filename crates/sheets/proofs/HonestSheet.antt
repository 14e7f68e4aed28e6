-- The check does not refuse everything: where one message alone has the least metric, the honest sheet, written by the one definition
-- of a sheet's bytes, is accepted, if it has no more entries than a sheet may have. Once for any trellis whose nodes and metrics fit a
-- sheet's fields, then for the symbols of a code. Assumes nothing.
use mathlib.Core.Path.{◌≡◌, refl, sym, ap, ◌∙◌, subst}
use mathlib.Core.List.{List, [], ◌∷◌, ◌++◌}
use mathlib.Core.Bool.{Bool, true}
use Prim.Native.Nat.{ℕ, ◌^◌, ◌≤◌, ◌<◌}
use native.Mathlib.Decide.{dec_lt}
use native.Mathlib.Omega.{arith}
use borrow.Author.Tests.{le-leb}
use lib.Dec.{T, leb, ltb, le→leb, lt→ltb}
use lib.IntN.{ℤ}
use lib.ListN.{length, get_or, drop, get_or-eq_default}
use lib.Pow.{pow_mono}
use Rattle.std.proofs.lemmas.Bool.Decides.{nat_tests}
use Rattle.lists.specs.Lists.{all}
use Rattle.lists.proofs.Tests.{true_out, and_in}
use Rattle.lists.proofs.Membership.{◌∈◌, here, Every, all_in, member_length}
use Rattle.lists.proofs.Places.{place_in}
use Rattle.desk.specs.Desk.{handed}
use Rattle.codes.specs.declared.table.Code.{Code}
use Rattle.codes.specs.Codes.{lawful}
use Rattle.codes.specs.Limits.{most_memory}
use Rattle.codes.proofs.Rules.{lawful_out}
use Rattle.trellis.specs.Trellis.{Trellis, Path, top, ends}
use Rattle.trellis.specs.Verdict.{Entry, messages, least_metric, least_messages}
use Rattle.trellis.specs.Sheet.{honest}
use Rattle.trellis.specs.Lawful.{Allowed, Lawful}
use Rattle.trellis.proofs.Paths.{path_short}
use Rattle.trellis.proofs.Messages.{Word, words_out, least_messages_out}
use Rattle.trellis.proofs.Honest.{Due, honest_out, honest_sorted, honest_terminal}
use Rattle.trellis.proofs.SheetComplete.{sheet_complete}
use Rattle.blocks.specs.Symbols.{view}
use Rattle.blocks.specs.Blocks.{trellis_of}
use Rattle.blocks.proofs.Closing.{trellis_lawful, state_below}
use Rattle.blocks.proofs.Weights.{Tested, least_metric_greatest}
use Rattle.sheets.specs.Bytes.{Sheet, sheet_bytes, sheet_read}
use Rattle.sheets.specs.Checking.{same_bytes, framed, most_entries, rising, inside, formed, carried, honest_sheet, accepted, check_desk, sizes_fit, checking}
use Rattle.sheets.proofs.Octets.{Bits}
use Rattle.sheets.proofs.Written.{Fits, read_written}
use Rattle.sheets.proofs.Frame.{same_bytes_test}
use Rattle.sheets.proofs.Listing.{rising_test}
use Rattle.sheets.proofs.Rows.{passed_accepted}

-- ---- any trellis

-- What is asked of a trellis of so many states: messages of bits, and nodes and metrics that a sheet's fields hold.
pub record Writable (t : Trellis) (states : ℕ) : Type 0 where
  pub law : Lawful t
  pub bits : t.inputs ≤ 2
  pub state : {p : Path} → Allowed t p → ends t p < states
  pub narrow : states ≤ 2 ^ 16
  pub low : top t < 2 ^ 16
  pub light : least_metric t < 2 ^ 32

-- and of a message: that it alone is least, and that not too many nodes are as cheap
pub record Sole (t : Trellis) (w : List ℕ) : Type 0 where
  pub one : least_messages t ≡ w ∷ []
  pub few : length (honest t (least_metric t)) ≤ most_entries

module _ (t : Trellis) (states : ℕ) (w : List ℕ) (fit : Writable t states) (h : Sole t w) where
  abbrev sheet : Sheet
  sheet = honest_sheet t w

  -- ---- its fields fit

  -- the message is one of L bits
  word : Word t.inputs t.span w
  unfolding messages
  word = words_out t.inputs t.span (least_messages_out t (subst (λ (x : List (List ℕ)). w ∈ x) (sym h.one) (here refl))).member

  bits : Bits w
  bits i = go (dec_lt i (length w))
    where
      go : Dec (i < length w) → get_or w i 0 ≤ 1
      go (yes k) = omega (arith, fit.bits, word.fits (get_or w i 0) (place_in 0 w i k))
      go (no n) = let e : get_or w i 0 ≡ 0 = get_or-eq_default w 0 {n = i} (omega arith) in omega arith

  -- where an entry's node lies
  record Inside (e : Entry) : Type 0 where
    level : e.node.level ≤ top t
    state : e.node.state < states
    cost : e.cost ≤ least_metric t

  -- each lies in the trellis and costs no more than the metric
  within : Every Inside (honest t (least_metric t))
  within e m =
      let d : Due t (least_metric t) e = honest_out t (least_metric t) m in
      let p = d.priced in
      record {
        level = omega (arith, p.there.level, path_short p.there.allowed);
        state = omega (arith, p.there.state, fit.state p.there.allowed);
        cost = d.within;
      }

  -- so every field fits its width
  fits : Fits t.span sheet
  fits = record {
    span = omega (arith, fit.low);
    metric = omega (arith, fit.light);
    size = word.length;
    bits = bits;
    count = omega (arith, h.few);
    entries = (λ e m. let i = within e m in record {
      level = omega (arith, i.level, fit.low);
      state = omega (arith, i.state, fit.narrow);
      cost = omega (arith, i.cost, fit.light);
    });
  }

  -- ---- it is accepted

  abbrev bytes : List ℕ
  bytes = sheet_bytes t.span sheet

  -- it is read back
  back : sheet_read t.span bytes ≡ sheet
  back = read_written t.span sheet fits

  listed : (sheet_read t.span bytes).entries ≡ honest t (least_metric t)
  listed = ap (λ (s : Sheet). s.entries) back

  -- its form is good: what was read, written again, is the same
  framed_back : framed t.span bytes ≡ true
  unfolding framed
  framed_back = true_out (same_bytes (sheet_bytes t.span (sheet_read t.span bytes)) bytes) ((same_bytes_test _ bytes).into (ap (sheet_bytes t.span) back))

  -- and its entries are as many as may be, rise, and lie in the trellis
  good : formed t.span (top t) states bytes ≡ true
  unfolding formed
  good =
      let es : List Entry = honest t (least_metric t) in
      let node : Every (λ e. T (inside (top t) states e)) es =
      λ e m. let i = within e m in and_in (leb e.node.level (top t)) (ltb e.node.state states) (le→leb _ _ i.level) (lt→ltb _ _ i.state) in
      rw (
        framed_back,
        listed,
        le-leb 1 (length es) (member_length (honest_terminal fit.law)),
        le-leb (length es) most_entries h.few,
        true_out (rising es) ((rising_test es).into (honest_sorted t (least_metric t))),
        true_out (all (inside (top t) states) es) (all_in (inside (top t) states) es node),
      )

  -- The honest sheet is accepted, where the code and the sizes are: its metric is given and its message written.
  pub honest_desk : (rules sizes : Bool) → rules ≡ true → sizes ≡ true → (message : List ℕ)
      → check_desk rules sizes (formed t.span (top t) states bytes) t (sheet_read t.span bytes) message
      ≡ handed (accepted (least_metric t)) (w ++ drop t.span message)
  unfolding carried
  honest_desk rules sizes r z message =
      passed_accepted rules sizes (formed t.span (top t) states bytes) t (sheet_read t.span bytes) message (record {
        lawful = r;
        fits = z;
        formed = good;
        claim = ap (carried t) back ∙ sheet_complete fit.law h.one;
      })
      ∙ ap (λ (s : Sheet). handed (accepted s.metric) (s.message ++ drop t.span message)) back

-- ---- symbols

-- What is asked: a block of its own code, a buffer with room, one least message, and not too many entries.
pub record HasSheet (c : Code) (l : ℕ) (symbols : List ℤ) (w message : List ℕ) : Type 0 where
  pub tested : Tested c l symbols
  pub some : 1 ≤ l
  pub room : l ≤ length message
  pub one : least_messages (trellis_of c l (view symbols)) ≡ w ∷ []
  pub few : length (honest (trellis_of c l (view symbols)) (least_metric (trellis_of c l (view symbols)))) ≤ most_entries

-- a code's trellis has what is asked of one
pub code_writable : {c : Code} {l : ℕ} {symbols : List ℤ} → Tested c l symbols → Writable (trellis_of c l (view symbols)) (2 ^ c.memory)
code_writable {c} {l} {symbols} h =
    let memory : c.memory ≤ most_memory = (lawful_out c h.code).memory_most in
    record {
      law = trellis_lawful c l (view symbols);
      bits = omega arith;
      state = state_below c l (view symbols);
      narrow = pow_mono memory;
      low = omega (arith, h.span, memory);
      light = omega (arith, least_metric_greatest h);
    }

-- The honest sheet is accepted: its metric is given and its message written.
pub honest_accepted : (c : Code) (l : ℕ) (symbols : List ℤ) (w message : List ℕ) → HasSheet c l symbols w message
    → let t = trellis_of c l (view symbols) in
    checking c l symbols (sheet_bytes l (honest_sheet t w)) message ≡ handed (accepted (least_metric t)) (w ++ drop l message)
unfolding checking
honest_accepted c l symbols w message h =
    honest_desk (trellis_of c l (view symbols)) (2 ^ c.memory) w (code_writable h.tested) (record { one = h.one; few = h.few })
    (lawful c) (sizes_fit c l (length symbols) (length message)) h.tested.code sizes message
  where
    sizes : sizes_fit c l (length symbols) (length message) ≡ true
    sizes =
        let t = h.tested in
        grind (arith, nat_tests, t.size, t.span, h.some, h.room)
