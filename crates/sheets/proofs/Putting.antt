-- For whoever puts a sheet into a buffer: the numbers, the message and the entries, put one after the other, are the sheet's bytes.
-- Assumes nothing.
use mathlib.Core.Path.{◌≡◌, sym, ap, ◌∙◌}
use mathlib.Core.List.{List, ◌++◌, flat_map}
use Prim.Native.Nat.{ℕ, ◌+◌, ◌-◌}
use native.Mathlib.Omega.{arith}
use lib.ListN.{length}
use lib.Seq.{sets}
use Rattle.lists.proofs.Writing.{sets_append}
use Rattle.sheets.specs.Bytes.{Sheet, bytes_of, message_size, octet, message_place, entries_place, message_bytes, entry_bytes, following, sheet_bytes}
use Rattle.sheets.specs.Work.{sheet_size, head_bytes}
use Rattle.sheets.proofs.Series.{length_series}
use Rattle.sheets.proofs.Written.{length_following}

module _ (l : ℕ) (s : Sheet) where
  abbrev head : List ℕ
  head = head_bytes l s.metric (length s.entries)

  -- the bytes by their three parts
  split : sheet_bytes l s ≡ head ++ message_bytes l s.message ++ flat_map entry_bytes s.entries
  unfolding sheet_bytes following head_bytes bytes_of
  split =
      let n : length (following l s) ≡ sheet_size l (length s.entries) - 4 = omega (arith, length_following l s) in
      ap (λ (k : ℕ). bytes_of 4 k ++ following l s) n

  -- numbers, message and entries make the sheet
  pub put_sheet : (out : List ℕ)
      → sets (sets (sets out 0 head) message_place (message_bytes l s.message)) (entries_place l) (flat_map entry_bytes s.entries)
      ≡ sets out 0 (sheet_bytes l s)
  unfolding head_bytes bytes_of
  put_sheet out =
      let message : List ℕ = message_bytes l s.message in
      let entries : List ℕ = flat_map entry_bytes s.entries in
      let n : entries_place l ≡ 0 + length (head ++ message) = omega (arith, length_series (message_size l) (octet s.message)) in
      ap (λ (k : ℕ). sets (sets (sets out 0 head) message_place message) k entries) n
      ∙ ap (λ (b : List ℕ). sets b (0 + length (head ++ message)) entries) (sym (sets_append out head message 0))
      ∙ sym (sets_append out (head ++ message) entries 0)
      ∙ ap (sets out 0) (sym split)
