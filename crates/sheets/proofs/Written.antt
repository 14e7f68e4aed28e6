-- A sheet's bytes: how many they are, and that reading what was written gives the same sheet back, for every sheet whose fields fit
-- their widths; so a sheet's bytes have one reading. Which bytes have the frame of a sheet is in Frame. Assumes nothing.
use mathlib.Core.Path.{◌≡◌, refl, sym, ap, ap₂, ◌∙◌}
use mathlib.Core.List.{List, [], ◌∷◌, ◌++◌, flat_map}
use Prim.Native.Nat.{ℕ, suc, ◌+◌, ◌-◌, ◌*◌, ◌/◌, ◌%◌, ◌^◌, ◌<◌}
use native.Mathlib.Omega.{arith}
use lib.ListN.{length, get_or, drop, length-append, get_or-append}
use lib.Seq.{drop_at, drop-drop, get_or-drop, ext_get_or}
use Rattle.lists.proofs.Membership.{here, further, Every}
use Rattle.trellis.specs.Verdict.{Entry}
use Rattle.trellis.proofs.Paths.{node_path}
use Rattle.trellis.proofs.Order.{entry_path}
use Rattle.sheets.specs.Bytes.{Sheet, series, bytes_of, message_size, octet, message_bytes, entry_bytes, following, sheet_bytes}
use Rattle.sheets.specs.Bytes.{number_at, metric_place, count_place, message_place, entries_place, bit_at, entry_at, sheet_read}
use Rattle.sheets.specs.Work.{sheet_size}
use Rattle.sheets.proofs.Series.{length_series, get_or_series, series_same}
use Rattle.sheets.proofs.Numbers.{number_at_drop}
use Rattle.sheets.proofs.Octets.{Bits, octet_bit}

-- ---- how many they are

-- eight an entry
length_entries : (es : List Entry) → length (flat_map entry_bytes es) ≡ 8 * length es
unfolding flat_map bytes_of
length_entries [] = omega arith
length_entries (e ∷ es) = omega (arith, length_entries es)

-- all but the length field
pub length_following : (l : ℕ) (s : Sheet) → length (following l s) + 4 ≡ sheet_size l (length s.entries)
unfolding following bytes_of
length_following l s =
    omega (
      arith,
      length-append (message_bytes l s.message) (flat_map entry_bytes s.entries),
      length_series (message_size l) (octet s.message),
      length_entries s.entries,
    )

-- for a buffer's room: the size of a sheet
pub length_sheet_bytes : (l : ℕ) (s : Sheet) → length (sheet_bytes l s) ≡ sheet_size l (length s.entries)
unfolding sheet_bytes bytes_of
length_sheet_bytes l s = omega (arith, length_following l s)

-- ---- fields that fit

-- level and state in two bytes, the cost in four
pub record EntryFits (e : Entry) : Type 0 where
  pub level : e.node.level < 65536
  pub state : e.node.state < 65536
  pub cost : e.cost < 4294967296

-- a sheet that the layout has room for
pub record Fits (l : ℕ) (s : Sheet) : Type 0 where
  pub span : l < 65536
  pub metric : s.metric < 4294967296
  pub size : length s.message ≡ l
  pub bits : Bits s.message
  pub count : length s.entries < 65536
  pub entries : Every EntryFits s.entries

-- ---- an entry

-- for the entries: one is read back
entry_back : (e : Entry) → EntryFits e → (rest bytes : List ℕ) (at : ℕ) → drop at bytes ≡ entry_bytes e ++ rest → entry_at bytes at ≡ e
unfolding number_at bytes_of
entry_back e f rest bytes at h = entry_path cost (node_path level state)
  where
    level : number_at 2 at bytes ≡ e.node.level
    level = let e : at ≡ at + 0 = omega arith in ap (λ (k : ℕ). number_at 2 k bytes) e ∙ number_at_drop 2 0 at bytes ∙ ap (number_at 2 0) h
        ∙ omega (arith, f.level)

    state : number_at 2 (at + 2) bytes ≡ e.node.state
    state = number_at_drop 2 2 at bytes ∙ ap (number_at 2 2) h ∙ omega (arith, f.state)

    cost : number_at 4 (at + 4) bytes ≡ e.cost
    cost = number_at_drop 4 4 at bytes ∙ ap (number_at 4 4) h ∙ omega (arith, f.cost)

-- all entries, from the place of the first on
entries_back : (es : List Entry) → Every EntryFits es → (bytes : List ℕ) (at : ℕ) → drop at bytes ≡ flat_map entry_bytes es
    → series (length es) (λ i. entry_at bytes (at + 8 * i)) ≡ es
unfolding series flat_map bytes_of
entries_back [] f bytes at h = refl
entries_back (e ∷ es) f bytes at h =
    let zero_on : at + 8 * 0 ≡ at = omega arith in
    let first : entry_at bytes (at + 8 * 0) ≡ e = ap (entry_at bytes) zero_on ∙ entry_back e (f e (here refl)) (flat_map entry_bytes es) bytes at h in
    let after : drop (at + 8) bytes ≡ flat_map entry_bytes es = sym (drop-drop 8 at bytes) ∙ ap (drop 8) h in
    let on : (i : ℕ) → i < length es → entry_at bytes (at + 8 * suc i) ≡ entry_at bytes (at + 8 + 8 * i) =
    λ i k. (let q : at + 8 * suc i ≡ at + 8 + 8 * i = omega arith in ap (entry_at bytes) q) in
    ap₂ (λ (x : Entry) (l : List Entry). x ∷ l) first (series_same (length es) _ _ on ∙ entries_back es (λ a m. f a (further m)) bytes (at + 8) after)

-- ---- the whole sheet

module _ (l : ℕ) (s : Sheet) where
  -- what stands from the message on
  from_message : drop message_place (sheet_bytes l s) ≡ message_bytes l s.message ++ flat_map entry_bytes s.entries
  unfolding sheet_bytes following bytes_of
  from_message = refl

  -- what stands from the entries on
  from_entries : drop (entries_place l) (sheet_bytes l s) ≡ flat_map entry_bytes s.entries
  from_entries =
      sym (drop-drop (message_size l) message_place (sheet_bytes l s))
      ∙ ap (drop (message_size l)) from_message
      ∙ drop_at (message_bytes l s.message) (flat_map entry_bytes s.entries) (message_size l) (length_series (message_size l) (octet s.message))

  -- the byte of the message at a place
  pub message_byte : (j : ℕ) → j < message_size l → get_or (sheet_bytes l s) (message_place + j) 0 ≡ octet s.message j
  message_byte j h =
      sym (get_or-drop message_place (sheet_bytes l s) j 0)
      ∙ ap (λ (b : List ℕ). get_or b j 0) from_message
      ∙ get_or-append (message_bytes l s.message) (flat_map entry_bytes s.entries) 0 j (omega (arith, length_series (message_size l) (octet s.message)))
      ∙ get_or_series (message_size l) (octet s.message) j 0 h

  module _ (f : Fits l s) where
    -- field by field
    metric_back : number_at 4 metric_place (sheet_bytes l s) ≡ s.metric
    unfolding sheet_bytes following bytes_of number_at
    metric_back = omega (arith, f.metric)

    count_back : number_at 2 count_place (sheet_bytes l s) ≡ length s.entries
    unfolding sheet_bytes following bytes_of number_at
    count_back = omega (arith, f.count)

    message_back : series l (bit_at (sheet_bytes l s)) ≡ s.message
    message_back =
        ext_get_or 0 (series l (bit_at (sheet_bytes l s))) s.message (length_series l (bit_at (sheet_bytes l s)) ∙ sym f.size)
        (λ i h. at i (omega (arith, length_series l (bit_at (sheet_bytes l s)))))
      where
        at : (i : ℕ) → i < l → get_or (series l (bit_at (sheet_bytes l s))) i 0 ≡ get_or s.message i 0
        at i h =
            get_or_series l (bit_at (sheet_bytes l s)) i 0 h
            ∙ ap (λ (b : ℕ). b / 2 ^ (7 - i % 8) % 2) (message_byte (i / 8) (omega arith))
            ∙ octet_bit s.message f.bits i

    -- Reading what was written gives the same sheet back.
    pub read_written : sheet_read l (sheet_bytes l s) ≡ s
    unfolding sheet_read
    read_written = λ z. record { metric = metric_back z; message = message_back z; entries = listed z }
      where
        listed : series (number_at 2 count_place (sheet_bytes l s)) (λ i. entry_at (sheet_bytes l s) (entries_place l + 8 * i)) ≡ s.entries
        listed =
            ap (λ (n : ℕ). series n (λ i. entry_at (sheet_bytes l s) (entries_place l + 8 * i))) count_back
            ∙ entries_back s.entries f.entries (sheet_bytes l s) (entries_place l) from_entries

-- So a sheet's bytes have only one reading.
pub one_reading : (l : ℕ) (s t : Sheet) → Fits l s → Fits l t → sheet_bytes l s ≡ sheet_bytes l t → s ≡ t
one_reading l s t f g e = sym (read_written l s f) ∙ ap (sheet_read l) e ∙ read_written l t g
