-- `sums` meets its contract: after p turns the tile holds the sums of p depth steps. Assumes nothing.
use Rattle.rules.specs.Element.{complex}
use Rattle.loops.specs.TileLaws.{summed_none}
use Rattle.kernel.proofs.Laws.{lines_of_one}
use Rattle.kernel.proofs.complex.sums.Goals as goal

pub loop-p-init : goal.loop-p-init
loop-p-init g c =
    let held = g.Z.Paired.held in
    summed_none (complex g.Z.Real.Real.format) held g.row.MR g.row.NR _ _
    (lines_of_one held (g.met.Z.Paired.kept c.zero.result) c.zero.ensures g.row.NR g.row.MR)
