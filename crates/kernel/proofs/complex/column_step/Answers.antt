-- `column_step` meets its contract: below i the column's numbers have the step's products added. Assumes nothing.
use Rattle.rules.specs.ListLaws.{filled_all}
use Rattle.kernel.proofs.complex.column_step.Goals as goal

pub returns : goal.returns
returns g c = filled_all _ _ _ _ c.loop-i.i c.loop-i.invariant.2 c.loop-i-test.false
