-- `gemm_packed` meets its contract (LOOP 2): the columns of the first j tile columns are settled. Assumes nothing.
use Rattle.std.proofs.Common.{min, ◌*◌}
use Rattle.rules.specs.{Slice.Updated, Slice.Block}
use Rattle.element.specs.{Fates.fate_of, Kinds.arith_of, Kinds.view_of, Kinds.tiling_of}
use Rattle.layout.specs.Place.{index_of}
use Rattle.loops.specs.{Panels.packing_of, Panels.unpacked, Work.settled, Work.Turns}
use Rattle.gemm_loops.proofs.packed.gemm_packed.Given as goal

abbrev pub invariant-loop-j : goal.invariant-loop-j
invariant-loop-j g l =
    let kind = g.T.Element.kind in
    let is = g.T.Element.held.is in
    let floats = g.T.Real.Real.floats in
    let w = (tiling_of kind).nr in
    Turns w l.n l.j-end l.j (floats l.initial.c) (floats l.c)
    (Updated (view_of kind) (index_of l.lc) (Block l.m (min (l.j * w) l.n))
    (settled (arith_of kind) (fate_of is l.fate) (is l.alpha) (unpacked (packing_of kind) (floats l.a) (tiling_of kind).mr l.kc)
    (unpacked (packing_of kind) (floats l.b) w l.kc) l.kc) (floats l.initial.c) (floats l.c))
