-- `sums` meets its contract: after p turns the tile holds the sums of p depth steps. Assumes nothing.
use Rattle.std.proofs.Common.{◌≡◌}
use Rattle.rules.specs.Element.{complex}
use Rattle.loops.specs.Panels.{complex_packing}
use Rattle.loops.specs.Tiles.{summed}
use Rattle.kernel.proofs.complex.sums.Given as goal

abbrev pub invariant-loop-p : goal.invariant-loop-p
invariant-loop-p g l =
    let r = g.Z.Real.Real in
    l.t ≡ summed (complex r.format) g.Z.Paired.held g.row.MR g.row.NR
    (complex_packing.lane (r.floats l.a) g.row.MR) (complex_packing.lane (r.floats l.b) g.row.NR) l.p
