-- `imaginaries_of` meets its contract: below i the array is `Filled` with the column's imaginaries. Assumes nothing.
use Rattle.std.proofs.Common.{◌≡◌, length}
use Rattle.rules.specs.Lists.{Filled}
use Rattle.loops.specs.Tiles.{at}
use Rattle.kernel.proofs.complex.imaginaries_of.Given as goal

abbrev pub invariant-loop-i : goal.invariant-loop-i
invariant-loop-i g l =
    let real = g.Z.Real.Real.held in
    (length l.fn.t ≡ g.row.MR) × Filled real.none g.row.MR l.i (λ k. real.of (at g.Z.Paired.held l.fn.t k).im) l.initial.im l.im
