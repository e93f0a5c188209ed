-- `sums` meets its contract: t is the columns of the first 4 * turn depth steps, which `rest` takes up. Assumes nothing.
use Rattle.std.proofs.Common.{◌≡◌, ◌*◌}
use Rattle.rules.specs.Element.{real}
use Rattle.loops.specs.Panels.{real_packing}
use Rattle.loops.specs.Tiles.{summed}
use Rattle.kernel.proofs.real.sums.Given as goal

abbrev pub invariant-loop-turn : goal.invariant-loop-turn
invariant-loop-turn g l =
    l.t ≡ summed (real g.R.Real.format) g.R.Real.held g.row.MR g.row.NR (real_packing.lane (g.R.Real.floats l.a) g.row.MR)
    (real_packing.lane (g.R.Real.floats l.b) g.row.NR) (l.turn * 4)
