-- `row_times` meets its contract: row i of the columns is multiplied in order, the row is `Filled` below j. Assumes nothing.
use Rattle.rules.specs.Element.{real}
use Rattle.rules.specs.Lists.{Filled}
use Rattle.loops.specs.Tiles.{cell}
use Rattle.kernel.proofs.real.row_times.Given as goal

abbrev pub invariant-loop-j : goal.invariant-loop-j
invariant-loop-j g l =
    let held = g.R.Real.held in
    Filled held.none g.row.NR l.j (λ j. held.of ((real g.R.Real.format).mul (held.is l.alpha) (cell held l.t j l.i))) l.initial.row l.row
