-- `row_loop` meets its contract (LOOP 3): the rows of the first i chunks are settled. Assumes nothing.
use Rattle.std.proofs.Common.{min, ◌*◌}
use Rattle.element.specs.{Fates.fate_of, Kinds.tiling_of}
use Rattle.loops.specs.Work.{rows_make, LoopLeaves, Turns}
use Rattle.gemm_loops.proofs.outer.row_loop.Given as goal

abbrev pub invariant-loop-i : goal.invariant-loop-i
invariant-loop-i g l =
    let kind = g.T.Element.kind in
    let is = g.T.Element.held.is in
    let floats = g.T.Real.Real.floats in
    let w = (tiling_of kind).mc in
    Turns w l.a.rows l.i-end l.i (floats l.initial.c) (floats l.c)
    (LoopLeaves kind l.lc (min (l.i * w) l.a.rows) l.n
    (rows_make kind (fate_of is l.fate) (is l.alpha) (floats l.a.reals.now) l.a.at (floats l.initial.pack) l.asize l.a.columns) l.asize
    (floats l.initial.c) (floats l.c) (floats l.initial.pack) (floats l.pack))
