-- All numbers of the search fit: a safe row's node is one of the trellis, and its cost is that of a path, so no more than the block
-- weighs. And memory that was large enough stays so. Assumes nothing.
use mathlib.Core.Path.{◌≡◌, sym, ap, ◌∙◌}
use Prim.Native.Nat.{ℕ, ◌<◌}
use native.Mathlib.Omega.{arith}
use Rattle.std.specs.Prelude.{Result}
use Rattle.trellis.specs.Trellis.{top, allowed}
use Rattle.trellis.specs.Search.{Row, Tried}
use Rattle.trellis.specs.Safe.{SafeRow}
use Rattle.trellis.proofs.Paths.{allowed_top}
use Rattle.blocks.proofs.Asked.{block_state, block_light}
use Rattle.store.specs.Memory.{Shown}
use Rattle.blocks.specs.Machines.{trellis_under}
use Rattle.search.specs.Work.{Lent, Roomy, Fitting, Tries}
use Rattle.blocks.specs.declared.block.Block.{Block}
use Rattle.search.specs.declared.step.Full.{Full}

module _ (b : Block) where
  -- for every row that is read: its numbers fit their words
  pub safe_fitting : {cap n : ℕ} {r : Row} → SafeRow (trellis_under b) cap n r → Fitting b r.entry
  safe_fitting s =
      let a = s.attained.attains in
      record {
        state = rw (sym a.there.state) (block_state b a.there.allowed);
        cost = omega (arith, a.paid, block_light b s.attained.path);
      }

  -- for every branch that is taken: it leads one level higher, where there is one
  pub fitting_higher : (level input : ℕ) → input < allowed (trellis_under b) level → level < top (trellis_under b)
  fitting_higher level input h = allowed_top (trellis_under b) level input h

-- ---- the memory

-- memory of as many words is as large
pub lent_on : {room words as_many : ℕ} → as_many ≡ words → Lent room words → Lent room as_many
lent_on e h = record { small = h.small; enough = omega (arith, h.enough) }

-- for the next turn: after a try there is room for as many rows as before
pub tries_roomy : {first nodes : Shown} {room : ℕ} {r : Result (Unit {0}) Full} {p : Tried} → Tries first nodes room r p → Lent room first.words
    → Roomy nodes room
tries_roomy t h = record { most = rw t.shows t.most; lent = lent_on (ap (λ (s : Shown). s.words) t.shows) h }

-- a try from memory of as many words is one from the memory before it
pub tries_from : {first mid nodes : Shown} {room : ℕ} {r : Result (Unit {0}) Full} {p : Tried} → mid.words ≡ first.words → Tries mid nodes room r p
    → Tries first nodes room r p
tries_from {p = p} e t = record { shows = t.shows ∙ ap (λ (w : ℕ). record { words = w; rows = p.rows }) e; most = t.most; full = t.full }
