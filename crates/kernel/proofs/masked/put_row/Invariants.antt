-- `put_row` meets its contract: the row's elements before j and inside the mask are put. Assumes nothing.
use Rattle.std.proofs.Common.{◌≡◌, length, min}
use Rattle.rules.specs.Element.{put}
use Rattle.rules.specs.Slice.{Updated, Region}
use Rattle.element.specs.Fates.{fate_of}
use Rattle.element.specs.Kinds.{arith_of, view_of}
use Rattle.layout.specs.Place.{index_of}
use Rattle.loops.specs.Tiles.{at}
use Rattle.kernel.proofs.masked.put_row.Given as goal

abbrev pub invariant-loop-j : goal.invariant-loop-j
invariant-loop-j g l =
    (length l.fn.ab ≡ g.row.N)
    × Updated (view_of g.T.Element.kind) (index_of l.lc) (Region l.i 1 0 (min l.j l.cols))
    (λ i j. put (arith_of g.T.Element.kind) (fate_of g.T.Element.held.is l.fn.fate) (at g.T.Element.held l.fn.ab j))
    (g.T.Real.Real.floats l.initial.c) (g.T.Real.Real.floats l.c)
