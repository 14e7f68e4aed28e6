-- What an index that was found says of the number behind it, for callers. Assumes nothing.
use Rattle.std.proofs.Common.{◌≡◌, ℕ, ◌≤◌, ◌<◌, List, Some, None, ltb, length, sym, ◌∙◌}
use Rattle.std.proofs.lemmas.Bool.{ltb-true, lt-ltb, le-ltb}
use Rattle.std.proofs.lemmas.Option.{cond_some, none-some}
use native.Mathlib.Decide.{dec_lt}
use native.Mathlib.Omega.{arith}
use Rattle.trellis.specs.Search.{Row}
use Rattle.store.specs.Memory.{found_at}

module _ (rows : List Row) (i : ℕ) where
  -- an index among the rows is found
  pub found_within : i < length rows → found_at rows i ≡ Some i
  found_within h = rw (lt-ltb i (length rows) h)

  -- the number of the rows is not
  pub found_past : length rows ≤ i → found_at rows i ≡ None
  found_past h = rw (le-ltb i (length rows) h)

  -- what was found is the index, and is among the rows
  pub found_some : {k : ℕ} → found_at rows i ≡ Some k → (i ≡ k) × (k < length rows)
  found_some {k} e =
      let p = cond_some (ltb i (length rows)) i k e in
      let h : i < length rows = ltb-true i (length rows) p.0 in
      (p.1, rw (sym p.1) h)

  -- where nothing was found, the index is not among them
  pub found_none : found_at rows i ≡ None → length rows ≤ i
  found_none e = go (dec_lt i (length rows))
    where
      go : Dec (i < length rows) → length rows ≤ i
      go (yes h) = absurd (none-some i (sym e ∙ found_within h))
      go (no d) = omega arith
