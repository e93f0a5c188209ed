-- `pack_panel` meets its contract: the first p depth steps are spliced in. Assumes nothing.
use Rattle.std.proofs.Common.{◌≡◌}
use Rattle.rules.specs.Lists.{splice}
use Rattle.element.specs.Kinds.{arith_of}
use Rattle.layout.specs.Place.{element_at}
use Rattle.loops.specs.Panels.{packing_of, padded, packed_panel}
use Rattle.packing.proofs.panels.pack_panel.Given as goal

abbrev pub invariant-loop-p : goal.invariant-loop-p
invariant-loop-p g l =
    g.T.Real.Real.floats l.pack
    ≡ splice (g.T.Real.Real.floats l.initial.pack) l.start
    (packed_panel (packing_of g.T.Element.kind) l.w l.p
    (padded (arith_of g.T.Element.kind) l.a.rows (element_at g.T.Element.kind (g.T.Real.Real.floats l.a.reals.now) l.a.at)) l.first)
