-- `c_to_masked_ab_beta_c` meets its contract: above row i the tile's cells are put. Assumes nothing.
use Rattle.rules.specs.Element.{put}
use Rattle.rules.specs.Slice.{Updated, Block}
use Rattle.element.specs.Fates.{fate_of}
use Rattle.element.specs.Kinds.{arith_of, view_of}
use Rattle.layout.specs.Place.{index_of}
use Rattle.loops.specs.Tiles.{cell}
use Rattle.kernel.proofs.masked.c_to_masked_ab_beta_c.Given as goal

abbrev pub invariant-loop-i : goal.invariant-loop-i
invariant-loop-i g l =
    Updated (view_of g.T.Element.kind) (index_of l.lc) (Block l.i l.cols)
    (λ i j. put (arith_of g.T.Element.kind) (fate_of g.T.Element.held.is l.fn.fate) (cell g.T.Element.held l.fn.ab i j))
    (g.T.Real.Real.floats l.initial.c) (g.T.Real.Real.floats l.c)
