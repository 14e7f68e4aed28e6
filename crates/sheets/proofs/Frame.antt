-- Which bytes have the frame of a sheet: writing what was read gives them back exactly if the size, the length field, the kind, L and
-- the unused bits are as the layout says. Both ways, for a program that tests these. Assumes nothing.
use mathlib.Core.Path.{◌≡◌, refl, sym, ap, ap₂, ◌∙◌, subst}
use mathlib.Core.List.{List, [], ◌∷◌, ◌++◌, flat_map, append-nil}
use Prim.Native.Nat.{ℕ, zero, suc, ◌+◌, ◌-◌, ◌*◌, ◌%◌, ◌^◌, ◌≤◌, ◌<◌}
use native.Mathlib.Nat.{mod-one}
use native.Mathlib.Decide.{ℕ_discrete}
use native.Mathlib.Omega.{arith}
use lib.ListN.{length, get_or, drop, drop_of_length-le}
use mathlib.Core.Bool.{true}
use Rattle.lists.proofs.Tests.{true_in}
use Rattle.lists.proofs.Decides.{Decides, said, together, equal}
use Rattle.codes.specs.Limits.{shortest_message, longest_message}
use Rattle.trellis.specs.Verdict.{Entry}
use Rattle.sheets.specs.Bytes.{series, bytes_of, kind, message_size, octet, message_bytes, entry_bytes, following, sheet_bytes}
use Rattle.sheets.specs.Bytes.{number_at, count_place, message_place, entries_place, bit_at, entry_at, sheet_read}
use Rattle.sheets.specs.Checking.{same_bytes, framed}
use Rattle.sheets.specs.Work.{sheet_size}
use Rattle.sheets.proofs.Series.{length_series, series_same, series_stands}
use Rattle.sheets.proofs.Numbers.{Bytes, number_stands, number_at_below}
use Rattle.sheets.proofs.Octets.{used, octet_read}
use Rattle.sheets.proofs.Written.{length_following, length_sheet_bytes, message_byte}

-- ---- the same bytes

-- the test of bytes decides their equality
pub same_bytes_test : (xs ys : List ℕ) → Decides (same_bytes xs ys) (xs ≡ ys)
unfolding same_bytes
same_bytes_test [] [] = record { out = (λ h. refl); into = (λ e. tt) }
same_bytes_test [] (y ∷ ys) = record { out = (λ h. absurd h); into = (λ e. let z : ◌≡◌ {A = ℕ} 0 1 = cc in absurd (omega arith)) }
same_bytes_test (x ∷ xs) [] = record { out = (λ h. absurd h); into = (λ e. let z : ◌≡◌ {A = ℕ} 0 1 = cc in absurd (omega arith)) }
same_bytes_test (x ∷ xs) (y ∷ ys) = said (together (equal x y) (same_bytes_test xs ys)) (λ h. λ z. h.0 z ∷ h.1 z) (λ e. (cc, cc))

-- ---- the frame

-- what a program tests
pub record Framed (l : ℕ) (bytes : List ℕ) : Type 0 where
  -- no byte is missing or left over
  pub size : length bytes ≡ sheet_size l (number_at 2 count_place bytes)
  -- the length field
  pub follow : number_at 4 0 bytes + 4 ≡ length bytes
  pub kind : number_at 2 4 bytes ≡ kind
  pub span : number_at 2 6 bytes ≡ l
  -- the unused bits
  pub spare : get_or bytes (message_place + (message_size l - 1)) 0 % 2 ^ (8 * message_size l - l) ≡ 0

-- a number that was read, written again, is what stands there
stands : (bytes : List ℕ) → Bytes bytes → (width at end : ℕ) → at + width ≡ end → end ≤ length bytes
    → drop at bytes ≡ bytes_of width (number_at width at bytes) ++ drop end bytes
stands bytes b width at end e h = number_stands bytes b width at (omega arith) ∙ ap (λ (k : ℕ). bytes_of width (number_at width at bytes) ++ drop k bytes) e

-- so is an entry
entry_stands : (bytes : List ℕ) → Bytes bytes → (at : ℕ) → at + 8 ≤ length bytes → drop at bytes ≡ entry_bytes (entry_at bytes at) ++ drop (at + 8) bytes
unfolding bytes_of
entry_stands bytes b at h =
    stands bytes b 2 at (at + 2) refl (omega arith)
    ∙ ap (λ (t : List ℕ). bytes_of 2 (number_at 2 at bytes) ++ t)
    (stands bytes b 2 (at + 2) (at + 4) (omega arith) (omega arith)
    ∙ ap (λ (t : List ℕ). bytes_of 2 (number_at 2 (at + 2) bytes) ++ t) (stands bytes b 4 (at + 4) (at + 8) (omega arith) h))

-- and so are all of them
entries_stand : (bytes : List ℕ) → Bytes bytes → (n at : ℕ) → at + 8 * n ≤ length bytes
    → drop at bytes ≡ flat_map entry_bytes (series n (λ i. entry_at bytes (at + 8 * i))) ++ drop (at + 8 * n) bytes
unfolding series flat_map bytes_of
entries_stand bytes b zero at h = let e : at ≡ at + 8 * 0 = omega arith in ap (λ (k : ℕ). drop k bytes) e
entries_stand bytes b (suc n) at h =
    let here : at ≡ at + 8 * 0 = omega arith in
    let end : at + 8 + 8 * n ≡ at + 8 * suc n = omega arith in
    let on : series n (λ i. entry_at bytes (at + 8 + 8 * i)) ≡ series n (λ i. entry_at bytes (at + 8 * suc i)) =
    series_same n _ _ (λ i k. (let q : at + 8 + 8 * i ≡ at + 8 * suc i = omega arith in ap (entry_at bytes) q)) in
    entry_stands bytes b at (omega arith)
    ∙ ap₂ (λ (k : ℕ) (t : List ℕ). entry_bytes (entry_at bytes k) ++ t) here
    (entries_stand bytes b n (at + 8) (omega arith) ∙ ap₂ (λ (es : List Entry) (k : ℕ). flat_map entry_bytes es ++ drop k bytes) on end)

-- the entries that are read are as many as the count says
pub counted : (l : ℕ) (bytes : List ℕ) → length (sheet_read l bytes).entries ≡ number_at 2 count_place bytes
unfolding sheet_read
counted l bytes = length_series (number_at 2 count_place bytes) _

module _ (l : ℕ) (bytes : List ℕ) (b : Bytes bytes) (some : shortest_message ≤ l) (span : l ≤ longest_message) where
  -- what is written in front of the message: the length field
  follow_back : number_at 4 0 (sheet_bytes l (sheet_read l bytes)) + 4 ≡ sheet_size l (number_at 2 count_place bytes)
  unfolding sheet_bytes bytes_of number_at
  follow_back = omega (arith, length_following l (sheet_read l bytes), counted l bytes, number_at_below bytes b 2 count_place)

  -- the kind
  kind_back : number_at 2 4 (sheet_bytes l (sheet_read l bytes)) ≡ kind
  unfolding sheet_bytes following bytes_of number_at
  kind_back = omega arith

  -- L
  span_back : number_at 2 6 (sheet_bytes l (sheet_read l bytes)) ≡ l
  unfolding sheet_bytes following bytes_of number_at
  span_back = omega arith

  -- the place of the message's last byte
  abbrev last : ℕ
  last = message_size l - 1

  -- how many bits of it are unused
  unused : 8 - used l last ≡ 8 * message_size l - l
  unused = omega arith

  -- the unused bits are 0 exactly if the byte is that of its bits
  last_read : octet (series l (bit_at bytes)) last + get_or bytes (message_place + last) 0 % 2 ^ (8 * message_size l - l) ≡ get_or bytes (message_place + last) 0
  last_read =
      subst (λ (k : ℕ). octet (series l (bit_at bytes)) last + get_or bytes (message_place + last) 0 % 2 ^ k ≡ get_or bytes (message_place + last) 0) unused
      (octet_read bytes b l last)

  -- the byte that is written there
  last_written : get_or (sheet_bytes l (sheet_read l bytes)) (message_place + last) 0 ≡ octet (series l (bit_at bytes)) last
  unfolding sheet_read
  last_written = message_byte l (sheet_read l bytes) last (omega arith)

  -- what is written back has the frame
  frame_out : sheet_bytes l (sheet_read l bytes) ≡ bytes → Framed l bytes
  frame_out e = record {
    size = size;
    follow = ap (λ (x : List ℕ). number_at 4 0 x + 4) (sym e) ∙ follow_back ∙ sym size;
    kind = ap (number_at 2 4) (sym e) ∙ kind_back;
    span = ap (number_at 2 6) (sym e) ∙ span_back;
    spare = omega (arith, last_read, as_written);
  }
    where
      size : length bytes ≡ sheet_size l (number_at 2 count_place bytes)
      size = ap length (sym e) ∙ length_sheet_bytes l (sheet_read l bytes) ∙ ap (sheet_size l) (counted l bytes)

      as_written : get_or bytes (message_place + last) 0 ≡ octet (series l (bit_at bytes)) last
      as_written = ap (λ (x : List ℕ). get_or x (message_place + last) 0) (sym e) ∙ last_written

  -- every byte of the message is that of its bits
  message_stands : Framed l bytes → drop message_place bytes ≡ message_bytes l (series l (bit_at bytes)) ++ drop (entries_place l) bytes
  message_stands f =
      series_stands bytes (message_size l) (octet (series l (bit_at bytes))) message_place 0 (omega (arith, f.size)) (λ j h. at j h (ℕ_discrete j last))
    where
      at : (j : ℕ) → j < message_size l → Dec (j ≡ last) → get_or bytes (message_place + j) 0 ≡ octet (series l (bit_at bytes)) j
      at j h (yes e) =
          rw e (omega (arith, last_read, f.spare))
      at j h (no n) =
          let full : 8 - used l j ≡ 0 = omega arith in
          let z : get_or bytes (message_place + j) 0 % 2 ^ (8 - used l j) ≡ 0 =
          ap (λ (k : ℕ). get_or bytes (message_place + j) 0 % 2 ^ k) full ∙ mod-one (get_or bytes (message_place + j) 0) in
          omega (arith, octet_read bytes b l j)

  -- and so are the entries, to the end
  listed_stand : Framed l bytes → drop (entries_place l) bytes ≡ flat_map entry_bytes (sheet_read l bytes).entries
  unfolding sheet_read
  listed_stand f =
      let n : ℕ = number_at 2 count_place bytes in
      entries_stand bytes b n (entries_place l) (omega (arith, f.size))
      ∙ ap (λ (t : List ℕ). flat_map entry_bytes (sheet_read l bytes).entries ++ t)
      (drop_of_length-le bytes {i = entries_place l + 8 * n} (omega (arith, f.size)))
      ∙ append-nil (flat_map entry_bytes (sheet_read l bytes).entries)

  -- so is all that follows the length
  following_stands : Framed l bytes → drop 4 bytes ≡ following l (sheet_read l bytes)
  unfolding following bytes_of sheet_read
  following_stands f =
      stands bytes b 2 4 6 refl (omega (arith, f.size))
      ∙ ap₂ (λ (n : ℕ) (t : List ℕ). bytes_of 2 n ++ t) f.kind
      (stands bytes b 2 6 8 refl (omega (arith, f.size))
      ∙ ap₂ (λ (n : ℕ) (t : List ℕ). bytes_of 2 n ++ t) f.span
      (stands bytes b 4 8 12 refl (omega (arith, f.size))
      ∙ ap (λ (t : List ℕ). bytes_of 4 (number_at 4 8 bytes) ++ t)
      (stands bytes b 2 12 14 refl (omega (arith, f.size))
      ∙ ap₂ (λ (n : ℕ) (t : List ℕ). bytes_of 2 n ++ t) (sym (counted l bytes))
      (message_stands f ∙ ap (λ (t : List ℕ). message_bytes l (series l (bit_at bytes)) ++ t) (listed_stand f)))))

  -- what has the frame is written back
  frame_in : Framed l bytes → sheet_bytes l (sheet_read l bytes) ≡ bytes
  unfolding sheet_bytes
  frame_in f =
      let n : number_at 4 0 bytes ≡ length (following l (sheet_read l bytes)) =
      omega (arith, f.follow, f.size, length_following l (sheet_read l bytes), counted l bytes) in
      sym (stands bytes b 4 0 4 refl (omega (arith, f.size)) ∙ ap₂ (λ (k : ℕ) (t : List ℕ). bytes_of 4 k ++ t) n (following_stands f))

  -- For the check of the form.
  pub framed_test : Decides (framed l bytes) (Framed l bytes)
  unfolding framed
  framed_test = said (same_bytes_test (sheet_bytes l (sheet_read l bytes)) bytes) frame_out frame_in

  -- for a program that goes on after the test
  pub framed_out : framed l bytes ≡ true → Framed l bytes
  framed_out h = framed_test.out (true_in (framed l bytes) h)
