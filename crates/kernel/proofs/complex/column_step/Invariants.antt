-- `column_step` meets its contract: below i the column's numbers have the step's products added. Assumes nothing.
use Rattle.std.proofs.Common.{◌≡◌, length}
use Rattle.rules.specs.Element.{complex}
use Rattle.rules.specs.Lists.{Filled}
use Rattle.loops.specs.Tiles.{at}
use Rattle.kernel.specs.Parts.{both}
use Rattle.kernel.proofs.complex.column_step.Given as goal

abbrev pub invariant-loop-i : goal.invariant-loop-i
invariant-loop-i g l =
    let held = g.Z.Paired.held in
    let r = g.Z.Real.Real in
    (length l.pp ≡ g.row.MR)
    × (length l.qq ≡ g.row.MR)
    × Filled held.none g.row.MR l.i
    (λ k. held.of ((complex r.format).step (at held l.fn.t k) (both r.held l.pp l.qq k) (held.is l.fn.b))) l.fn.t l.u
