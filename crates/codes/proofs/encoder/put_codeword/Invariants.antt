-- `encoder::put_codeword` meets its contract: what is written and what is left are the codeword, and nothing behind was touched.
-- Assumes nothing.
use mathlib.Core.Path.{◌≡◌}
use mathlib.Core.List.{List, ◌++◌}
use Prim.Native.Nat.{ℕ, ◌*◌, ◌^◌, ◌<◌}
use lib.ListN.{take, drop}
use Rattle.codes.specs.Codes.{generators_of, outputs_from, with_tail, codeword}
use Rattle.codes.specs.declared.table.Code.{Code}
use Rattle.codes.specs.declared.register.Register.{Register}
use Rattle.codes.proofs.encoder.put_codeword.Given as goal

-- i bits are done
pub record Done (code : Code) (message first out : List ℕ) (register : Register) (i : ℕ) : Type 0 where
  pub memory : register.memory ≡ code.memory
  pub state : register.state < 2 ^ register.memory
  pub written : take (code.outputs * i) out ++ outputs_from (generators_of code) code.memory register.state (drop i (with_tail code.memory message)) ≡ codeword code message
  pub kept : drop (code.outputs * i) out ≡ drop (code.outputs * i) first

abbrev pub invariant-loop-i : goal.invariant-loop-i
invariant-loop-i l = Done l.fn.kept.code l.message l.initial.out l.out l.register l.i
