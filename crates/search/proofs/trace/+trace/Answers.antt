-- `search::trace::trace` meets its contract: what a call writes below a level's place stands in front of it (Tracing). Assumes nothing.
use mathlib.Core.Path.{◌∙◌}
use mathlib.Core.List.{List}
use Prim.Native.Nat.{◌<◌}
use native.Mathlib.Omega.{arith}
use Rattle.trellis.specs.Search.{Row}
use Rattle.store.specs.Memory.{row_of}
use Rattle.search.proofs.Tracing.{front_origin, Put, put_tail, put_message, traceable_here, traceable_next}
use Rattle.search.proofs.trace.+trace.Goals as goal
use Rattle.search.proofs.trace.+trace.Goals.{then-below-bits, else-below-bits}

pub returns-then-level-eq0 : goal.returns-then-level-eq0
returns-then-level-eq0 t c =
    let s = c.args in
    front_origin s.nodes.now.rows s.level s.i s.bits s.message.now c.if-level-eq0.true

pub row-here-requires : goal.row-here-requires
row-here-requires t c =
    let s = c.args in
    let rows : List Row = s.nodes.now.rows in
    traceable_here rows s.level s.i (omega arith) c.requires.traceable

pub trace-requires : goal.trace-requires
trace-requires t c =
    let s = c.args in
    let rows : List Row = s.nodes.now.rows in
    let above : 0 < s.level = omega arith in
    let r = c.row-here.ensures.row in
    let put : Put rows s.level s.i s.bits (row_of c.row-here.result) s.message.now c.if-below-bits.message =
    elim c.if-below-bits.branch [
      | then-below-bits w ↦ put_message rows s.level s.i s.bits r above w.if-below-bits.true c.requires.buffer w.message-is
      | else-below-bits w ↦ put_tail rows s.level s.i s.bits r above w.if-below-bits.false w.message-is
    ] in
    let next = traceable_next rows s.level s.i r (omega arith) c.requires.traceable in
    (omega arith, (next, omega (arith, put.kept)))

pub returns : goal.returns
returns t c =
    let s = c.args in
    let rows : List Row = s.nodes.now.rows in
    let above : 0 < s.level = omega arith in
    let r = c.row-here.ensures.row in
    let put : Put rows s.level s.i s.bits (row_of c.row-here.result) s.message.now c.if-below-bits.message =
    elim c.if-below-bits.branch [
      | then-below-bits w ↦ put_message rows s.level s.i s.bits r above w.if-below-bits.true c.requires.buffer w.message-is
      | else-below-bits w ↦ put_tail rows s.level s.i s.bits r above w.if-below-bits.false w.message-is
    ] in
    c.trace.ensures ∙ put.rest
