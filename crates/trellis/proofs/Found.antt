-- For law 8, the search at its end: where the first open row is the terminal's, its cost is the least metric, its count is how many
-- messages share it, stopped at the cap, its trace is a least path, the steps are E, and the outcome read as a verdict is the decided one.
-- Assumes nothing.
use mathlib.Core.Path.{◌≡◌, sym, ap, ◌∙◌, subst}
use mathlib.Core.List.{List, [], ◌∷◌}
use mathlib.Core.Bool.{cond}
use Prim.Native.Nat.{ℕ, ◌≤◌, ◌<◌, min}
use native.Mathlib.Decide.{dec_lt}
use native.Mathlib.Omega.{arith}
use lib.Dec.{leb}
use borrow.Author.Tests.{le-leb, lt-leb}
use lib.ListN.{length}
use Rattle.lists.proofs.Membership.{◌∈◌, only_member}
use Rattle.trellis.specs.Trellis.{Trellis, Path, Node, top, terminal}
use Rattle.trellis.specs.Verdict.{steps, least_metric, least_messages, answered, tied, decided}
use Rattle.trellis.specs.Lawful.{Lawful}
use Rattle.trellis.specs.Search.{Row, row_at, entry_at, node_at, cost_at, first_open, found, trace, read, message_of}
use Rattle.trellis.specs.Safe.{Attains}
use Rattle.trellis.proofs.Cost.{Cost, LeastPaths, least_paths}
use Rattle.trellis.proofs.Messages.{least_metric_is, least_messages_length, decided_answered, decided_tied}
use Rattle.trellis.proofs.MetNodes.{steps_at}
use Rattle.trellis.proofs.Sharing.{sharing}
use Rattle.trellis.proofs.Trace.{trace_attains}
use Rattle.trellis.proofs.Between.{Between, Next, between_next}

-- what an answer carries
pub record Right (t : Trellis) (cap : ℕ) (rows : List Row) (metric done count i : ℕ) : Type 0 where
  -- the least metric
  pub least : least_metric t ≡ metric
  -- E
  pub ended : steps t ≡ done
  -- how many messages share the least metric, stopped at the cap
  pub counted : count ≡ min cap (length (least_messages t))
  -- the trace is a path that has it
  pub traced : Attains t (record { cost = metric; node = terminal t }) (trace rows (top t) i)

module _ {t : Trellis} (law : Lawful t) {cap room j i : ℕ} {rows : List Row} (inv : Between t cap room j rows)
    (f : i ≡ first_open rows) (h : i < length rows) (e : node_at rows i ≡ terminal t) where
  -- what is known of the terminal's row: the next ranked node, at the terminal's cost, and the path that its trace is
  next : Next t cap j i rows
  next = between_next inv f h

  found_cost : Cost t (terminal t) (cost_at rows i)
  found_cost = rw e at next.known

  way : Attains t (record { cost = cost_at rows i; node = terminal t }) (trace rows (top t) i)
  way =
      subst (λ (x : Node). Attains t (record { cost = cost_at rows i; node = x }) (trace rows (top t) i)) e
      (trace_attains inv.table (top t) i h (ap (λ (x : Node). x.level) e))

  -- the least paths to the terminal
  least_paths_lem : LeastPaths t (terminal t) (cost_at rows i) (sharing t (entry_at rows i))
  least_paths_lem = subst (λ (x : Node). LeastPaths t x (cost_at rows i) (sharing t (entry_at rows i))) e (least_paths t (node_at rows i) (cost_at rows i))

  -- what an answer or a tie hands back is right
  pub found_right : Right t cap rows (cost_at rows i) j (row_at rows i).count i
  found_right = record {
    least = least_metric_is law found_cost;
    ended = steps_at t j (entry_at rows i) next.grows e;
    counted = next.counted ∙ ap (min cap) (sym (least_messages_length law found_cost least_paths_lem));
    traced = way;
  }

  -- and so the outcome reads as the paper says
  pub found_decided : 2 ≤ cap → read t rows (found (cost_at rows i) j (row_at rows i).count i) ≡ decided t (least_messages t)
  unfolding read
  found_decided k = go (dec_lt 1 (length (sharing t (entry_at rows i))))
    where
      p : Path
      p = trace rows (top t) i

      member : p ∈ sharing t (entry_at rows i)
      member = least_paths_lem.full p way.there way.paid

      go : Dec (1 < length (sharing t (entry_at rows i)))
          → cond (leb (row_at rows i).count 1) (answered (message_of t p) (cost_at rows i) j) (tied (cost_at rows i) j) ≡ decided t (least_messages t)
      go (yes l) =
          rw (lt-leb (row_at rows i).count 1 (omega (arith, next.counted)), ← found_right.ended) (sym (decided_tied law found_cost least_paths_lem l))
      go (no l) =
          let q : sharing t (entry_at rows i) ≡ p ∷ [] = only_member (sharing t (entry_at rows i)) member (omega arith) in
          rw (le-leb (row_at rows i).count 1 (omega (arith, next.counted)), ← found_right.ended)
          (sym (decided_answered law found_cost (subst (LeastPaths t (terminal t) (cost_at rows i)) q least_paths_lem)))
