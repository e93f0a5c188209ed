-- `gemm_loop` meets its contract (LOOP 5): the columns of the first j chunks are done. Assumes nothing.
use Rattle.std.proofs.Common.{min, ◌*◌}
use Rattle.rules.specs.Element.{chunks}
use Rattle.element.specs.Kinds.{tiling_of, per_element}
use Rattle.layout.specs.Need.{need_of}
use Rattle.loops.specs.Work.{deep, LoopLeaves, Turns}
use Rattle.gemm_loops.proofs.outer.gemm_loop.Given as goal

abbrev pub invariant-loop-j : goal.invariant-loop-j
invariant-loop-j g l =
    let kind = g.T.Element.kind in
    let is = g.T.Element.held.is in
    let floats = g.T.Real.Real.floats in
    let w = (tiling_of kind).nc in
    Turns w l.b.columns l.j-end l.j (floats l.initial.c) (floats l.c)
    (LoopLeaves kind l.lc l.a.rows (min (l.j * w) l.b.columns)
    (deep kind l.chunk (is l.alpha) (is l.beta) (floats l.a.reals.now) l.a.at (floats l.b.reals.now) l.b.at l.a.columns
    (chunks l.chunk l.a.columns))
    (need_of (tiling_of kind) l.chunk l.a.rows l.a.columns l.b.columns * per_element kind)
    (floats l.initial.c) (floats l.c) (floats l.initial.pack) (floats l.pack))
