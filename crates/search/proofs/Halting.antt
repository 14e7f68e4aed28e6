-- What a halt of the search comes to: a refusal is the verdict's; at the terminal a tie is told, or the only least path is there to be
-- traced; and what follows from such an answer: the trace can go, and what it writes is the verdict's message. Assumes nothing.
use mathlib.Core.Path.{◌≡◌, sym, ap, ◌∙◌, subst}
use mathlib.Core.List.{List}
use Prim.Native.Nat.{ℕ, ◌≤◌, ◌<◌}
use native.Mathlib.Omega.{arith}
use borrow.Author.Tests.{le-leb, lt-leb}
use Rattle.std.specs.Prelude.{Ok, Err}
use Rattle.trellis.specs.Trellis.{Trellis, top}
use Rattle.trellis.specs.Verdict.{Verdict, answered, verdict}
use Rattle.trellis.specs.Lawful.{Lawful}
use Rattle.trellis.specs.Search.{Row, Outcome, found, full, spent, Ended, searched, trace, read, message_of}
use Rattle.trellis.proofs.Searched.{searched_verdict, searched_right}
use Rattle.trellis.proofs.Found.{Right}
use Rattle.trellis.proofs.Trace.{length_trace}
use Rattle.blocks.proofs.Asked.{block_lawful, block_light}
use Rattle.store.specs.Memory.{Shown}
use Rattle.desk.specs.Desk.{handed, refused, told_by}
use Rattle.search.specs.Decoding.{told, given}
use Rattle.blocks.specs.Bounds.{heaviest}
use Rattle.blocks.specs.Machines.{trellis_under}
use Rattle.search.specs.Work.{cap, answer_of, Halts, Traceable, in_front, Answer}
use Rattle.blocks.specs.declared.block.Block.{Block}
use Rattle.desk.specs.declared.Refusal.{Refusal}
use Rattle.desk.specs.declared.Refusal.TheVariants.{NoRoom, NoAllowance, Tied}
use Rattle.search.specs.declared.seen.Settled.{Settled}
use Rattle.search.specs.declared.run.Terminal.{Terminal}
use Rattle.search.proofs.Runs.{searched_none}
use Rattle.search.proofs.Tracing.{searched_traceable, front_whole}

-- ---- an answer

module _ {t : Trellis} (law : Lawful t) {room allowance : ℕ} {first nodes : Shown} {s : Settled} (A : Answer t room allowance first nodes s) where
  -- the way that is traced
  abbrev way : List ℕ
  way = trace nodes.rows (top t) s.row

  -- the rows that the memory shows are the search's
  shown : nodes.rows ≡ (searched t cap room allowance).rows
  shown = ap (λ (x : Shown). x.rows) A.shows

  -- the trace can go
  pub answer_traceable : Traceable nodes.rows (top t) s.row
  answer_traceable =
      subst (λ (x : List Row). Traceable x (top t) s.row) (sym shown)
      (searched_traceable law cap room allowance (omega arith) s.found.metric s.found.steps A.count s.row A.outcome)

  -- its message is the verdict's
  pub answer_verdict : verdict t room allowance ≡ answered (message_of t way) s.found.metric s.found.steps
  unfolding read
  answer_verdict =
      sym (searched_verdict law cap room allowance (omega arith))
      ∙ ap (read t (searched t cap room allowance).rows) A.outcome
      ∙ ap (λ (x : List Row). read t x (found s.found.metric s.found.steps A.count s.row)) (sym shown)
      ∙ rw (le-leb A.count 1 A.alone)

  -- and what it writes is handed back
  pub answer_told : (message exit : List ℕ) → exit ≡ in_front t.span (top t) way message
      → told (Ok s.found) exit ≡ given (verdict t room allowance) message
  unfolding told_by given
  answer_told message exit e =
      rw answer_verdict (ap (told (Ok s.found)) (e ∙ front_whole t way message (length_trace nodes.rows (top t) s.row)))

-- ---- a halt

-- an answer of the run is that the search found the terminal
ok_found : (o : Outcome) (e : Terminal) → Ok e ≡ answer_of o → o ≡ found e.metric e.steps e.count e.row
ok_found (found metric steps count row) e h = cc
ok_found (full steps) e h = absurd (cc)
ok_found (spent steps) e h = absurd (cc)

-- a refusal of the run is the outcome's, read
err_read : (t : Trellis) (rows : List Row) (o : Outcome) (d : Refusal) → Err d ≡ answer_of o
    → (message : List ℕ) → handed (refused d) message ≡ given (read t rows o) message
unfolding refused given read
err_read t rows (found metric steps count row) d h message = absurd (cc)
err_read t rows (full steps) d h message = let e : d ≡ NoRoom steps = cc in ap (λ (x : Refusal). handed (refused x) message) e
err_read t rows (spent steps) d h message = let e : d ≡ NoAllowance steps = cc in ap (λ (x : Refusal). handed (refused x) message) e

module _ (b : Block) (room allowance : ℕ) where
  abbrev t : Trellis
  t = trellis_under b

  law : Lawful t
  law = block_lawful b

  -- the verdict is the outcome, read
  halt_read : verdict t room allowance ≡ read t (searched t cap room allowance).rows (searched t cap room allowance).outcome
  halt_read = sym (searched_verdict law cap room allowance (omega arith))

  -- without room for the origin
  pub none_refused : room ≡ 0 → (message : List ℕ) → handed (refused (NoRoom 0)) message ≡ given (verdict t room allowance) message
  none_refused e message =
      err_read t _ _ (NoRoom 0) (ap (λ (x : Ended). answer_of x.outcome) (sym (searched_none t cap room allowance e))) message
      ∙ sym (ap (λ (v : Verdict). given v message) halt_read)

  -- for a halt without room or allowance
  pub halt_refused : {first nodes : Shown} {d : Refusal} → Halts first nodes room (Err d) (searched t cap room allowance)
      → (message : List ℕ) → handed (refused d) message ≡ given (verdict t room allowance) message
  halt_refused H message = err_read t _ _ _ H.answer message ∙ sym (ap (λ (v : Verdict). given v message) halt_read)

  -- for a halt at the terminal
  module _ {first nodes : Shown} {e : Terminal} (H : Halts first nodes room (Ok e) (searched t cap room allowance)) where
    ended : (searched t cap room allowance).outcome ≡ found e.metric e.steps e.count e.row
    ended = ok_found _ e H.answer

    -- the metric fits 32 bits
    pub halt_light : e.metric < heaviest
    halt_light =
        let right : Right t cap (searched t cap room allowance).rows e.metric e.steps e.count e.row =
        searched_right law cap room allowance (omega arith) e.metric e.steps e.count e.row ended in
        omega (arith, right.traced.paid, block_light b (trace (searched t cap room allowance).rows (top t) e.row))

    -- two paths or more are a tie
    pub halt_tied : 1 < e.count → (message : List ℕ) → handed (refused (Tied e.metric e.steps)) message ≡ given (verdict t room allowance) message
    unfolding refused given read
    halt_tied more message = sym (rw (halt_read, ended, lt-leb e.count 1 more))

    -- one alone is the answer
    pub halt_answered : e.count ≤ 1
        → Answer t room allowance first nodes (record { found = record { metric = e.metric; steps = e.steps }; row = e.row })
    halt_answered one = record {
      shows = H.shows;
      most = rw H.shows H.most;
      count = e.count;
      alone = one;
      outcome = ended;
      light = halt_light;
    }
