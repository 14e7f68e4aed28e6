-- What follows from an answered search for its sheet: the entries that the rows list, the terminal's row closed, are the honest sheet's;
-- there are E + 1 of them, no more than the room; their costs fit; the message is L bits. Assumes nothing.
use mathlib.Core.Path.{◌≡◌, refl, sym, ap, ◌∙◌}
use mathlib.Core.List.{List}
use mathlib.Core.Bool.{true}
use Prim.Native.Nat.{ℕ, zero, suc, ◌+◌, ◌^◌, ◌≤◌, ◌<◌}
use native.Mathlib.Omega.{arith}
use lib.ListN.{length, take, drop, length-set, drop_of_length-le}
use lib.Seq.{drop-cons, take_at}
use lib.Dec.{le→leb}
use Rattle.lists.specs.Lists.{all}
use Rattle.desk.specs.Desk.{handed, told_by}
use Rattle.lists.proofs.Tests.{true_out}
use Rattle.lists.proofs.Membership.{all_in}
use Rattle.lists.proofs.Places.{place_in}
use Rattle.codes.specs.Limits.{longest_message}
use Rattle.codes.specs.Encoding.{is_bit}
use Rattle.trellis.specs.Trellis.{Trellis, Path, top, terminal}
use Rattle.trellis.specs.Verdict.{Entry, least_metric, messages}
use Rattle.trellis.specs.Sheet.{honest}
use Rattle.trellis.specs.Lawful.{Lawful, Ends}
use Rattle.trellis.specs.Search.{Row, row_at, node_at, next_closed, shut, closed, searched, trace, message_of}
use Rattle.trellis.proofs.Messages.{words_out, Word, message_of_in}
use Rattle.trellis.proofs.Found.{Right}
use Rattle.trellis.proofs.Trace.{length_trace}
use Rattle.trellis.proofs.Searched.{searched_right}
use Rattle.trellis.proofs.Honest.{honest_out}
use Rattle.trellis.proofs.HonestRanked.{length_honest}
use Rattle.trellis.proofs.HonestRows.{Holds, Left, searched_left, length_holds}
use Rattle.trellis.proofs.Listing.{no_entry, Listing, honest_start, honest_next}
use Rattle.blocks.specs.Machines.{trellis_under}
use Rattle.blocks.specs.declared.block.Block.{Block}
use Rattle.blocks.proofs.Asked.{block_span, inputs_few}
use Rattle.store.specs.Memory.{Shown, showing}
use Rattle.search.specs.Decoding.{found, decode_desk}
use Rattle.search.specs.Limits.{largest_room}
use Rattle.search.specs.Work.{cap, Lent, in_front, Answer}
use Rattle.search.specs.declared.seen.Settled.{Settled}
use Rattle.search.proofs.Answers.{desk_verdict}
use Rattle.search.proofs.Tracing.{front_whole}
use Rattle.search.proofs.Halting.{answer_told}
use Rattle.sheets.specs.Bytes.{sheet_bytes}
use Rattle.sheets.specs.Checking.{most_entries, honest_sheet}
use Rattle.sheets.specs.Work.{sheet_size, Puttable}
use Rattle.sheets.proofs.Written.{length_sheet_bytes}
use Rattle.writer.specs.Work.{listed, Listable, sheet_of}

-- ---- the entries that the rows list

module _ (t : Trellis) (m : ℕ) {rows : List Row} (H : Holds (honest t m) rows) (low : m < 2 ^ 32) where
  -- from entry d on
  listed_from : (n d k : ℕ) → Listing (honest t m) rows d k → d + n ≡ length (honest t m) → listed rows n k ≡ drop d (honest t m)
  unfolding listed
  listed_from zero d k L e = let past : length (honest t m) ≤ d = omega arith in sym (drop_of_length-le (honest t m) past)
  listed_from (suc n) d k L e =
      let h : d < length (honest t m) = omega arith in
      rw (L.equal h, listed_from n (suc d) (next_closed (node_at rows k) rows) (honest_next t m H L h) (omega arith)) (sym (drop-cons (honest t m) d no_entry h))

  -- and they can be put: the rows are there, and no cost is above the metric
  listable_from : (n d k : ℕ) → Listing (honest t m) rows d k → d + n ≡ length (honest t m) → Listable rows n k
  unfolding Listable
  listable_from zero d k L e = tt
  listable_from (suc n) d k L e =
      let h : d < length (honest t m) = omega arith in
      let due = honest_out t m (place_in no_entry (honest t m) d h) in (
        L.within h,
        omega (arith, ap (λ (x : Entry). x.cost) (L.equal h), due.within),
        listable_from n (suc d) (next_closed (node_at rows k) rows) (honest_next t m H L h) (omega arith),
      )

  -- all of them are the honest sheet
  pub listed_honest : (n : ℕ) → n ≡ length (honest t m) → listed rows n 0 ≡ honest t m
  listed_honest n e = listed_from n 0 0 (honest_start t m H) (omega arith)

  -- and all of them can be put
  pub listable_honest : (n : ℕ) → n ≡ length (honest t m) → Listable rows n 0
  listable_honest n e = listable_from n 0 0 (honest_start t m H) (omega arith)

-- ---- an answer

-- what the writing of a sheet asks of a trellis: L and the room are small, an input is a bit
pub record Sized (t : Trellis) (l room : ℕ) : Type 0 where
  pub span : t.span ≡ l
  pub bits : t.inputs ≤ 2
  pub long : l ≤ longest_message
  pub small : room ≤ largest_room

-- a block as it was seen has all of it
pub block_sized : (b : Block) {room words : ℕ} → Lent room words → Sized (trellis_under b) b.bits room
block_sized b lent = record { span = block_span b; bits = inputs_few b; long = b.span; small = lent.small }

module _ {t : Trellis} (law : Lawful t) {l room allowance : ℕ} (Z : Sized t l room) {first nodes : Shown} {s : Settled}
    (A : Answer t room allowance first nodes s) where
  -- the memory shows the rows that the search left
  shown_rows : nodes.rows ≡ (searched t cap room allowance).rows
  shown_rows = ap (λ (x : Shown). x.rows) A.shows

  -- what the search found is right
  right : Right t cap (searched t cap room allowance).rows s.found.metric s.found.steps A.count s.row
  right = searched_right law cap room allowance (omega arith) s.found.metric s.found.steps A.count s.row A.outcome

  -- the terminal's row is the first open one
  pub answer_left : Left t nodes.rows s.row
  answer_left = rw shown_rows (searched_left law cap room allowance (omega arith) s.found.metric s.found.steps A.count s.row A.outcome)

  -- the way to the terminal, and its message
  abbrev way : Path
  way = trace nodes.rows (top t) s.row

  abbrev word : List ℕ
  word = message_of t way

  -- L bits
  word_whole : Word t.inputs t.span word
  unfolding messages
  word_whole =
      let there : Ends t (terminal t) way = rw shown_rows right.traced.there in
      words_out t.inputs t.span (message_of_in t there.allowed there.level)

  word_length : length word ≡ l
  word_length = word_whole.length ∙ Z.span

  word_all : all is_bit word ≡ true
  word_all = true_out (all is_bit word) (all_in is_bit word (λ b m. let h : b < t.inputs = word_whole.fits b m in le→leb b 1 (omega (arith, Z.bits))))

  -- E + 1 entries, no more than the room
  pub entries_count : s.found.steps + 1 ≡ length (honest t (least_metric t))
  entries_count = omega (arith, length_honest law, right.ended)

  -- so the count fits its two bytes
  entries_few : s.found.steps + 1 ≤ room
  entries_few =
      let same = length-set nodes.rows s.row (shut (row_at nodes.rows s.row)) in
      omega (arith, length_holds law answer_left.holds, right.ended, same, A.most)

  -- for the size: a sheet of so many entries can be put
  pub sizable : (l ≤ longest_message) × (s.found.steps + 1 ≤ most_entries)
  sizable = (Z.long, omega (arith, entries_few, Z.small))

  -- ---- the message is written

  module _ (message : List ℕ) {level : ℕ} (high : level ≡ top t) {exit : List ℕ}
      (e : exit ≡ in_front l level (trace nodes.rows level s.row) message) where
    -- from the top, in front of L bytes
    as_spanned : exit ≡ in_front t.span (top t) way message
    as_spanned = e ∙ (λ z. in_front (sym Z.span z) (high z) (trace nodes.rows (high z) s.row) message)

    -- as a decode would
    pub answer_decoding : handed (found s.found) exit ≡ decode_desk true true true t room allowance message
    unfolding told_by
    answer_decoding = answer_told law A message exit as_spanned ∙ sym (desk_verdict true true true t room allowance message refl refl refl)

    -- in front of the buffer
    exit_front : take l exit ≡ word
    exit_front = ap (take l) (as_spanned ∙ front_whole t way message (length_trace nodes.rows (top t) s.row)) ∙ take_at word _ l word_length

    -- L bits, for the sheet's message
    pub length_front : length (take l exit) ≡ l
    length_front = ap length exit_front ∙ word_length

    pub front_bits : all is_bit (take l exit) ≡ true
    front_bits = ap (all is_bit) exit_front ∙ word_all

    -- the size of its sheet
    pub sheet_size_lem : sheet_size l (s.found.steps + 1) ≡ length (sheet_bytes t.span (honest_sheet t (take t.span exit)))
    sheet_size_lem = omega (arith, length_sheet_bytes t.span (honest_sheet t (take t.span exit)), entries_count, Z.span)

    -- there is room for it
    pub front_puttable : (sheet : List ℕ) → sheet_size l (s.found.steps + 1) ≤ length sheet
        → Puttable (length (take l exit)) (s.found.steps + 1) sheet
    front_puttable sheet h = record {
      span = omega (arith, length_front, Z.long);
      most = sizable.1;
      room = omega (arith, length_front, h);
    }

    -- ---- the sheet is put, from any memory that shows the rows with the terminal's closed

    module _ {after : Shown} (as_closed : after ≡ showing nodes (closed nodes.rows s.row)) where
      -- its closed rows hold the honest entries
      shown_holds : Holds (honest t (least_metric t)) after.rows
      shown_holds = rw as_closed answer_left.holds

      -- the costs fit four bytes
      light : least_metric t < 2 ^ 32
      light = omega (arith, A.light, right.least)

      -- for the writing: the entries can be put
      pub shown_listable : Listable after.rows (s.found.steps + 1) 0
      shown_listable = listable_honest t (least_metric t) shown_holds light (s.found.steps + 1) entries_count

      -- and what is put is the honest sheet
      pub answer_sheet : sheet_bytes (length (take l exit)) (sheet_of s.found.metric (take l exit) (listed after.rows (s.found.steps + 1) 0))
          ≡ sheet_bytes t.span (honest_sheet t (take t.span exit))
      answer_sheet =
          let es : listed after.rows (s.found.steps + 1) 0 ≡ honest t (least_metric t) = listed_honest t (least_metric t) shown_holds light (s.found.steps + 1) entries_count in
          (λ z. sheet_bytes (length_front z) (sheet_of (sym right.least z) (take l exit) (es z)))
          ∙ ap (λ (k : ℕ). sheet_bytes k (honest_sheet t (take k exit))) (sym Z.span)
