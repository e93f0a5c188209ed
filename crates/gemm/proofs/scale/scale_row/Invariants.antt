-- `scale_row` meets its contract: below j the row's elements are scaled, the length is kept. Assumes nothing.
use Rattle.rules.specs.{Element.scaled, Slice.Updated, Slice.Region}
use Rattle.element.specs.{Fates.fate_of, Kinds.arith_of, Kinds.view_of}
use Rattle.layout.specs.Place.{index_of}
use Rattle.loops.specs.Work.{Steps}
use Rattle.gemm.proofs.scale.scale_row.Given as goal

abbrev pub invariant-loop-j : goal.invariant-loop-j
invariant-loop-j g l =
    let floats = g.T.Real.Real.floats in
    Steps l.n l.j (floats l.initial.c) (floats l.c)
    (Updated (view_of g.T.Element.kind) (index_of l.lc) (Region l.i 1 0 l.j)
    (λ i j. scaled (arith_of g.T.Element.kind) (fate_of g.T.Element.held.is l.fate)) (floats l.initial.c) (floats l.c))
