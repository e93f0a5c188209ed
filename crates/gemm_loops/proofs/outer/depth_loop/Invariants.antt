-- `depth_loop` meets its contract (LOOP 4): the first p chunks are done. Assumes nothing.
use Rattle.std.proofs.Common.{min, ◌+◌}
use Rattle.element.specs.Kinds.{tiling_of}
use Rattle.loops.specs.Work.{deep, panels, LoopLeaves, Turns}
use Rattle.gemm_loops.proofs.outer.depth_loop.Given as goal

abbrev pub invariant-loop-p : goal.invariant-loop-p
invariant-loop-p g l =
    let kind = g.T.Element.kind in
    let is = g.T.Element.held.is in
    let floats = g.T.Real.Real.floats in
    Turns l.chunk l.a.columns l.p-end l.p (floats l.initial.c) (floats l.c)
    (LoopLeaves kind l.lc l.a.rows l.b.columns
    (deep kind l.chunk (is l.alpha) (is l.beta) (floats l.a.reals.now) l.a.at (floats l.b.reals.now) l.b.at l.a.columns l.p)
    (l.asize + panels kind (tiling_of kind).nr l.b.columns (min l.a.columns l.chunk))
    (floats l.initial.c) (floats l.c) (floats l.initial.pack) (floats l.pack))
