-- `c_to_beta_c` meets its contract: below row i all elements are scaled, the length is kept. Assumes nothing.
use Rattle.rules.specs.{Element.scaled, Slice.Updated, Slice.Block}
use Rattle.element.specs.{Fates.fate_of, Kinds.arith_of, Kinds.view_of}
use Rattle.layout.specs.Place.{index_of}
use Rattle.loops.specs.Work.{Steps}
use Rattle.gemm.proofs.scale.c_to_beta_c.Given as goal

abbrev pub invariant-loop-i : goal.invariant-loop-i
invariant-loop-i g l =
    let floats = g.T.Real.Real.floats in
    Steps l.m l.i (floats l.initial.c) (floats l.c)
    (Updated (view_of g.T.Element.kind) (index_of l.lc) (Block l.i l.n)
    (λ i j. scaled (arith_of g.T.Element.kind) (fate_of g.T.Element.held.is l.fate)) (floats l.initial.c) (floats l.c))
