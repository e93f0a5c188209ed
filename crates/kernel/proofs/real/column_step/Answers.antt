-- `column_step` meets its contract: the column's cells are stepped in order, the column is `Filled` below i. Assumes nothing.
use Rattle.rules.specs.ListLaws.{filled_all}
use Rattle.kernel.proofs.real.column_step.Goals as goal

pub returns : goal.returns
returns g c = filled_all _ _ _ _ c.loop-i.i c.loop-i.invariant.1 c.loop-i-test.false
