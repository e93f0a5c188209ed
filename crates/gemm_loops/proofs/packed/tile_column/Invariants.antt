-- `tile_column` meets its contract (LOOP 1): the rows of the first i tiles are settled. Assumes nothing.
use Rattle.std.proofs.Common.{min, ◌*◌}
use Rattle.rules.specs.{Slice.Updated, Slice.Block}
use Rattle.element.specs.{Fates.fate_of, Kinds.arith_of, Kinds.view_of, Kinds.tiling_of}
use Rattle.layout.specs.Place.{index_of}
use Rattle.loops.specs.{Panels.packing_of, Panels.unpacked, Work.settled, Work.Turns}
use Rattle.gemm_loops.proofs.packed.tile_column.Given as goal

abbrev pub invariant-loop-i : goal.invariant-loop-i
invariant-loop-i g l =
    let kind = g.T.Element.kind in
    let is = g.T.Element.held.is in
    let floats = g.T.Real.Real.floats in
    let w = (tiling_of kind).mr in
    Turns w l.m l.i-end l.i (floats l.initial.c) (floats l.c)
    (Updated (view_of kind) (index_of l.lc) (Block (min (l.i * w) l.m) l.cols)
    (settled (arith_of kind) (fate_of is l.fate) (is l.alpha) (unpacked (packing_of kind) (floats l.a) w l.kc)
    ((packing_of kind).lane (floats l.b) (tiling_of kind).nr) l.kc) (floats l.initial.c) (floats l.c))
