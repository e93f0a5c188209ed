-- `column_step` meets its contract: the column's cells are stepped in order, the column is `Filled` below i. Assumes nothing.
use Rattle.std.proofs.Common.{◌≡◌, length}
use Rattle.rules.specs.Element.{real}
use Rattle.rules.specs.Lists.{Filled}
use Rattle.loops.specs.Tiles.{at}
use Rattle.kernel.proofs.real.column_step.Given as goal

abbrev pub invariant-loop-i : goal.invariant-loop-i
invariant-loop-i g l =
    let held = g.R.Real.held in
    (length l.fn.x ≡ g.row.MR)
    × Filled held.none g.row.MR l.i
    (λ k. held.of ((real g.R.Real.format).step (at held l.fn.t k) (at held l.fn.x k) (held.is l.fn.y))) l.fn.t l.u
