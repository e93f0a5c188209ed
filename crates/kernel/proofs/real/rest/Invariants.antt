-- `rest` meets its contract: u is the columns of the first q depth steps. Assumes nothing.
use Rattle.std.proofs.Common.{◌≡◌}
use Rattle.rules.specs.Element.{real}
use Rattle.loops.specs.Panels.{real_packing}
use Rattle.loops.specs.Tiles.{summed}
use Rattle.kernel.proofs.real.rest.Given as goal

abbrev pub invariant-loop-q : goal.invariant-loop-q
invariant-loop-q g l =
    l.u ≡ summed (real g.R.Real.format) g.R.Real.held g.row.MR g.row.NR (real_packing.lane (g.R.Real.floats l.a) g.row.MR)
    (real_packing.lane (g.R.Real.floats l.b) g.row.NR) l.q
