-- How large weights and metrics are: a signed byte weighs at most 128, and no metric is above 110,592. What the widths of the program's
-- numbers rest on. Assumes nothing.
use mathlib.Core.Path.{◌≡◌, refl}
use mathlib.Core.List.{List, [], ◌∷◌}
use mathlib.Core.Bool.{true}
use Prim.Native.Nat.{ℕ, ◌*◌, ◌≤◌}
use native.Mathlib.Omega.{arith}
use lib.IntN.{ℤ, pos, negsuc}
use lib.ListN.{length}
use mir.Syntax.{w8}
use mir.Val.{SFits}
use Rattle.lists.proofs.Membership.{here, further, Every}
use Rattle.codes.specs.declared.table.Code.{Code}
use Rattle.codes.specs.Limits.{longest_message}
use Rattle.codes.specs.Codes.{lawful, block_length}
use Rattle.codes.proofs.Rules.{block_short}
use Rattle.trellis.specs.Trellis.{Path, Node, metric}
use Rattle.trellis.specs.Verdict.{least_metric}
use Rattle.trellis.proofs.Cost.{Cost}
use Rattle.trellis.proofs.Messages.{least_metric_cost}
use Rattle.blocks.specs.Symbols.{hard_bit, weight, view}
use Rattle.blocks.specs.Blocks.{trellis_of}
use Rattle.blocks.specs.Bounds.{total_weight, greatest_weight, greatest_metric}
use Rattle.blocks.proofs.Closing.{trellis_lawful}
use Rattle.blocks.proofs.Distance.{metric_total}

-- the limit is the paper's number
pub greatest_metric_lem : greatest_metric ≡ 110592
greatest_metric_lem = refl

-- for a symbol that a byte holds
pub weight_byte : (z : ℤ) → SFits w8 z → weight z ≤ greatest_weight
weight_byte (pos n) h = omega (arith, h.sfits)
weight_byte (negsuc n) h = omega (arith, h.sfits)

-- for the block as plain numbers, whose lowest bit it is
pub hard_bit_bit : (z : ℤ) → hard_bit z ≤ 1
hard_bit_bit (pos n) = omega arith
hard_bit_bit (negsuc n) = omega arith

-- for 'the sum of all weights'
pub view_total : (symbols : List ℤ) → Every (SFits w8) symbols → total_weight (view symbols) ≤ greatest_weight * length symbols
unfolding view total_weight
view_total [] h = omega arith
view_total (z ∷ symbols) h = omega (arith, weight_byte z (h z (here refl)), view_total symbols (λ a m. h a (further m)))

-- What has been tested before anything is measured: the code, L, and the block's length; that symbols are bytes and that a code has
-- room for its generators the types say.
pub record Tested (c : Code) (l : ℕ) (symbols : List ℤ) : Type 0 where
  pub code : lawful c ≡ true
  pub span : l ≤ longest_message
  pub size : length symbols ≡ block_length c l
  pub bytes : Every (SFits w8) symbols
  pub full : c.outputs ≤ length c.generators

module _ {c : Code} {l : ℕ} {symbols : List ℤ} (h : Tested c l symbols) where
  -- 'It is at least 0 and at most the sum of all weights, so at most 110,592.'
  pub metric_greatest : (p : Path) → metric (trellis_of c l (view symbols)) p ≤ greatest_metric
  metric_greatest p =
      omega (arith, metric_total c l (view symbols) h.full p, view_total symbols h.bytes, h.size, block_short c l h.code h.span)

  -- for the numbers that the search keeps
  pub cost_greatest : {x : Node} {k : ℕ} → Cost (trellis_of c l (view symbols)) x k → k ≤ greatest_metric
  cost_greatest k = omega (arith, k.paid, metric_greatest k.path)

  -- for the metric that is handed back
  pub least_metric_greatest : least_metric (trellis_of c l (view symbols)) ≤ greatest_metric
  least_metric_greatest = cost_greatest (least_metric_cost (trellis_lawful c l (view symbols)))
