-- `pack` meets its contract: the first ir panels are spliced in. Assumes nothing.
use Rattle.std.proofs.Common.{◌≡◌}
use Rattle.rules.specs.Lists.{splice}
use Rattle.element.specs.Kinds.{arith_of}
use Rattle.layout.specs.Place.{element_at}
use Rattle.loops.specs.Panels.{packing_of, padded, packed}
use Rattle.packing.proofs.panels.pack.Given as goal

abbrev pub invariant-loop-ir : goal.invariant-loop-ir
invariant-loop-ir g l =
    g.T.Real.Real.floats l.pack
    ≡ splice (g.T.Real.Real.floats l.initial.pack) 0
    (packed (packing_of g.T.Element.kind) l.w l.a.columns l.ir
    (padded (arith_of g.T.Element.kind) l.a.rows (element_at g.T.Element.kind (g.T.Real.Real.floats l.a.reals.now) l.a.at)))
