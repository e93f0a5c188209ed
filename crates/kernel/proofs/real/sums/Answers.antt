-- `sums` meets its contract: t is the columns of the first 4 * turn depth steps, which `rest` takes up. Assumes nothing.
use Rattle.rules.specs.Element.{real}
use Rattle.loops.specs.TileLaws.{summed_none}
use Rattle.kernel.proofs.Laws.{lines_of_one}
use Rattle.kernel.proofs.real.sums.Goals as goal

pub loop-turn-init : goal.loop-turn-init
loop-turn-init g c =
    let r = g.R.Real in
    summed_none (real r.format) r.held g.row.MR g.row.NR _ _
    (lines_of_one r.held (g.met.R.Real.kept c.zero.result) c.zero.ensures g.row.NR g.row.MR)
