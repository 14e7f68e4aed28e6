-- The trace in lent memory: what each call writes in front of the message buffer, that every row it reads is there where the search
-- found the terminal, and what the buffer then holds. Assumes nothing.
use mathlib.Core.Path.{◌≡◌, refl, sym, ap}
use mathlib.Core.List.{List, [], ◌∷◌, ◌++◌, reverse, reverse_aux-eq, append_assoc}
use Prim.Native.Nat.{ℕ, zero, suc, ◌-◌, ◌≤◌, ◌<◌, min}
use native.Mathlib.Omega.{arith}
use lib.ListN.{length, drop, set, length-set, length-drop, length-reverse}
use Rattle.trellis.specs.Trellis.{Trellis, Path, Node, top}
use Rattle.trellis.specs.Lawful.{Lawful}
use Rattle.trellis.specs.Search.{Row, row_at, node_at, found, Ended, searched, trace, message_of}
use Rattle.trellis.proofs.Sharing.{Branch}
use Rattle.trellis.proofs.Table.{Table}
use Rattle.trellis.proofs.Trace.{parent_level, row_above}
use Rattle.trellis.proofs.Run.{Ending, no_room, at_terminal, out_of_room, out_of_steps, searched_ending}
use Rattle.search.specs.Work.{in_front, Traceable}

-- ---- what a call writes

-- for a buffer written from its end to its front
drop_set : (message : List ℕ) (k b : ℕ) → k < length message → drop k (set message k b) ≡ b ∷ drop (suc k) message
drop_set [] k b h = absurd (omega arith)
drop_set (x ∷ message) zero b h = refl
drop_set (x ∷ message) (suc k) b h = drop_set message k b (omega arith)

module _ (rows : List Row) where
  -- at the origin nothing is left to write
  pub front_origin : (level i l : ℕ) (message : List ℕ) → level ≡ 0 → message ≡ in_front l level (trace rows level i) message
  unfolding trace
  front_origin level i l message e =
      let none : 0 - l ≡ 0 = omega arith in
      let low : min 0 l ≡ 0 = omega arith in
      rw (e, none, low)

  -- Row i was read at a level, and its input put at its place or left out: then the rest of the way, written over the buffer as it is
  -- after that, makes the whole.
  pub record Put (level i l : ℕ) (r : Row) (message after : List ℕ) : Type 0 where
    pub kept : length after ≡ length message
    pub rest : in_front l (level - 1) (trace rows (level - 1) r.parent) after ≡ in_front l level (trace rows level i) message

  -- from level L on nothing is put
  left_out : (level i l : ℕ) (message : List ℕ) → 0 < level → l ≤ level - 1 → Put level i l (row_at rows i) message message
  unfolding trace
  left_out zero i l message h k = absurd (omega arith)
  left_out (suc level) i l message h k =
      let below : suc level - 1 ≡ level = omega arith in
      let more : suc level - l ≡ suc (level - l) = omega arith in
      let high : min (suc level) l ≡ min level l = omega arith in
      record { kept = refl; rest = rw (below, more, high) }

  -- below level L the input is put
  put_in : (level i l : ℕ) (message : List ℕ) → 0 < level → level - 1 < l → l ≤ length message
      → Put level i l (row_at rows i) message (set message (level - 1) (row_at rows i).input)
  unfolding trace
  put_in zero i l message h k room = absurd (omega arith)
  put_in (suc level) i l message h k room =
      let below : suc level - 1 ≡ level = omega arith in
      let none : suc level - l ≡ 0 = omega arith in
      let less : level - l ≡ 0 = omega arith in
      let high : min (suc level) l ≡ suc level = omega arith in
      let low : min level l ≡ level = omega arith in
      let b : ℕ = (row_at rows i).input in
      let path : Path = trace rows level (row_at rows i).parent in
      record {
        kept = length-set message (suc level - 1) b;
        rest =
            rw (below, none, less, high, low, drop_set message level b (omega arith))
            (sym (rw (reverse_aux-eq path (b ∷ []), append_assoc (reverse path) (b ∷ []) (drop (suc level) message))));
      }

  module _ (level i l : ℕ) {r : Row} (same : r ≡ row_at rows i) {message after : List ℕ} (above : 0 < level) where
    -- from level L on an input is left out
    pub put_tail : l ≤ level - 1 → after ≡ message → Put level i l r message after
    put_tail k e = rw (same, e) (left_out level i l message above k)

    -- below it the input stands at its level's place
    pub put_message : level - 1 < l → l ≤ length message → after ≡ set message (level - 1) r.input → Put level i l r message after
    put_message k room e = rw (e, same) (put_in level i l message above k room)

  -- the row is there
  pub traceable_here : (level i : ℕ) → 0 < level → Traceable rows level i → i < length rows
  unfolding Traceable
  traceable_here zero i h w = absurd (omega arith)
  traceable_here (suc level) i h w = w.0

  -- and so is the way from the one before it
  pub traceable_next : (level i : ℕ) {r : Row} → r ≡ row_at rows i → 0 < level → Traceable rows level i → Traceable rows (level - 1) r.parent
  unfolding Traceable
  traceable_next zero i same h w = absurd (omega arith)
  traceable_next (suc level) i same h w = let below : suc level - 1 ≡ level = omega arith in rw (below, same) w.1

-- ---- the way from the terminal

-- every row that came by a branch names the row where it came from, one level lower
traceable_rows : {t : Trellis} {cap j : ℕ} {taken : List Branch} {rows : List Row} → Table t cap j taken rows
    → (level i : ℕ) → i < length rows → (node_at rows i).level ≡ level → Traceable rows level i
unfolding Traceable
traceable_rows B zero i h e = tt
traceable_rows B (suc level) i h e =
    let above : 0 < i = row_above B i level e in
    (h, traceable_rows B level _ (B.linked i above h).within (omega (arith, parent_level B i above h)))

-- so where the search found the terminal, the way from its row to the origin is there
pub searched_traceable : {t : Trellis} → Lawful t → (cap room allowance : ℕ) → 1 ≤ cap → (metric steps count i : ℕ)
    → (searched t cap room allowance).outcome ≡ found metric steps count i → Traceable (searched t cap room allowance).rows (top t) i
searched_traceable {t} law cap room allowance one metric steps count i = go (searched_ending law cap room allowance one)
  where
    go : {e : Ended} → Ending t cap room allowance e → e.outcome ≡ found metric steps count i → Traceable e.rows (top t) i
    go (no_room z e) p = let n : ◌≡◌ {A = ℕ} 0 1 = cc (e, p) in absurd (omega arith)
    go (at_terminal j k rows M f h q l e) p =
        let m : k ≡ i = cc (e, p) in
        let r : rows ≡ _ = ap (λ (x : Ended). x.rows) (sym e) in
        rw (← r, ← m) (traceable_rows M.table (top t) k h (ap (λ (x : Node). x.level) q))
    go (out_of_room j rows h k r q e) p = let n : ◌≡◌ {A = ℕ} 0 1 = cc (e, p) in absurd (omega arith)
    go (out_of_steps rows h r e) p = let n : ◌≡◌ {A = ℕ} 0 1 = cc (e, p) in absurd (omega arith)

-- ---- what the buffer then holds

-- the message of the path in front, the excess untouched
pub front_whole : (t : Trellis) (path : Path) (message : List ℕ) → length path ≡ top t
    → in_front t.span (top t) path message ≡ message_of t path ++ drop (length (message_of t path)) message
front_whole t path message e =
    let tail : top t - t.span ≡ t.tail = omega arith in
    let low : min (top t) t.span ≡ t.span = omega arith in
    let long : length (message_of t path) ≡ t.span = omega (arith, length-reverse (drop t.tail path), length-drop t.tail path) in
    rw (tail, low, long)
