-- `times` meets its contract: before j the tile is `Filled` with columns whose first rows are alpha times what they were. Assumes nothing.
use Rattle.std.proofs.Common.{ap, ◌∙◌, arith}
use Rattle.rules.specs.ListLaws.{filled_more, filled_all}
use Rattle.kernel.proofs.complex.times.Invariants.{timed}
use Rattle.kernel.proofs.complex.times.Goals as goal

pub loop-j-preserved : goal.loop-j-preserved
loop-j-preserved g c =
    let l = c.loop-j in
    filled_more _ _ _ _ l.j l.invariant c.loop-j-test.true
    (c.column_times.ensures
    ∙ ap (timed g.Z.Real.Real.format g.Z.Paired.held g.row.MR c.args.rows c.args.alpha) (l.invariant.left l.j (omega arith)))

pub returns : goal.returns
returns g c = filled_all _ _ _ _ c.loop-j.j c.loop-j.invariant c.loop-j-test.false
