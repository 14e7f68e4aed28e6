-- For law 8: what becomes of an arrival: a row is lowered, joined or left, or one is added, or there is no room. First as equations, for
-- who made the tests and goes on; then as cases, for who splits a proof on them. Assumes nothing.
use mathlib.Core.Path.{◌≡◌}
use mathlib.Core.List.{List}
use mathlib.Core.Bool.{true, false}
use Prim.Native.Nat.{ℕ, ◌≤◌, ◌<◌}
use native.Mathlib.Decide.{ℕ_discrete, dec_lt}
use native.Mathlib.Omega.{arith}
use borrow.Author.Tests.{lt-ltb, le-ltb, eq-eqb, ne_eqb}
use lib.ListN.{length}
use Rattle.trellis.specs.Search.{Row, node_at, cost_at, find_row, added, lowered, joined, Tried, entered}
use Rattle.trellis.proofs.Scan.{RowOf, find_row_is}

-- ---- where the tests are known

module _ (cap room : ℕ) (rows : List Row) (a : Row) (k : ℕ) where
  module _ (h : k < length rows) where
    -- cheaper
    pub entered_lowers : a.entry.cost < cost_at rows k → entered cap room rows a k ≡ record { rows = lowered rows k a; full = false }
    unfolding entered
    entered_lowers l = rw (lt-ltb k (length rows) h, lt-ltb a.entry.cost (cost_at rows k) l)

    -- at the same cost
    pub entered_joins : a.entry.cost ≡ cost_at rows k → entered cap room rows a k ≡ record { rows = joined cap rows k a.count; full = false }
    unfolding entered
    entered_joins c = rw (lt-ltb k (length rows) h, le-ltb a.entry.cost (cost_at rows k) (omega arith), eq-eqb a.entry.cost (cost_at rows k) c)

    -- dearer
    pub entered_leaves : cost_at rows k < a.entry.cost → entered cap room rows a k ≡ record { rows = rows; full = false }
    unfolding entered
    entered_leaves l =
        rw (lt-ltb k (length rows) h, le-ltb a.entry.cost (cost_at rows k) (omega arith), ne_eqb a.entry.cost (cost_at rows k) (λ e. omega arith))

  module _ (h : length rows ≤ k) where
    -- a new node, and room for it
    pub entered_adds : length rows < room → entered cap room rows a k ≡ record { rows = added rows a; full = false }
    unfolding entered
    entered_adds l = rw (le-ltb k (length rows) h, lt-ltb (length rows) room l)

    -- a new node, and no room
    pub entered_stops : room ≤ length rows → entered cap room rows a k ≡ record { rows = rows; full = true }
    unfolding entered
    entered_stops l = rw (le-ltb k (length rows) h, le-ltb (length rows) room l)

-- ---- as cases

-- no row has the arrival's node
abbrev pub Unmet : List Row → Row → Type 0
Unmet rows a = (i : ℕ) → i < length rows → node_at rows i ≡ a.entry.node → ⊥

-- the five things that become of an arrival
pub data Entered (cap room : ℕ) (rows : List Row) (a : Row) : Tried → Type 0 where
  lowers : (k : ℕ) → k < length rows → node_at rows k ≡ a.entry.node → a.entry.cost < cost_at rows k
      → Entered cap room rows a (record { rows = lowered rows k a; full = false })
  joins : (k : ℕ) → k < length rows → node_at rows k ≡ a.entry.node → a.entry.cost ≡ cost_at rows k
      → Entered cap room rows a (record { rows = joined cap rows k a.count; full = false })
  leaves : (k : ℕ) → k < length rows → node_at rows k ≡ a.entry.node → cost_at rows k < a.entry.cost
      → Entered cap room rows a (record { rows = rows; full = false })
  adds : Unmet rows a → length rows < room → Entered cap room rows a (record { rows = added rows a; full = false })
  stops : Unmet rows a → room ≤ length rows → Entered cap room rows a (record { rows = rows; full = true })

-- every arrival is one of them
pub entered_is : (cap room : ℕ) (rows : List Row) (a : Row) → Entered cap room rows a (entered cap room rows a (find_row a.entry.node rows))
entered_is cap room rows a = go (find_row a.entry.node rows) (find_row_is a.entry.node rows) (dec_lt (find_row a.entry.node rows) (length rows))
  where
    known : (k : ℕ) → k < length rows → node_at rows k ≡ a.entry.node → Dec (a.entry.cost < cost_at rows k) → Dec (a.entry.cost ≡ cost_at rows k)
        → Entered cap room rows a (entered cap room rows a k)
    known k h e (yes l) d = rw (entered_lowers cap room rows a k h l) (lowers k h e l)
    known k h e (no l) (yes c) = rw (entered_joins cap room rows a k h c) (joins k h e c)
    known k h e (no l) (no c) = let m : cost_at rows k < a.entry.cost = omega arith in rw (entered_leaves cap room rows a k h m) (leaves k h e m)

    new : (k : ℕ) → length rows ≤ k → Unmet rows a → Dec (length rows < room) → Entered cap room rows a (entered cap room rows a k)
    new k h none (yes l) = rw (entered_adds cap room rows a k h l) (adds none l)
    new k h none (no l) = let m : room ≤ length rows = omega arith in rw (entered_stops cap room rows a k h m) (stops none m)

    go : (k : ℕ) → RowOf a.entry.node rows k → Dec (k < length rows) → Entered cap room rows a (entered cap room rows a k)
    go k f (yes h) = known k h (f.here h) (dec_lt a.entry.cost (cost_at rows k)) (ℕ_discrete a.entry.cost (cost_at rows k))
    go k f (no h) = new k (omega arith) (λ i m q. h (f.some i m q)) (dec_lt (length rows) room)
