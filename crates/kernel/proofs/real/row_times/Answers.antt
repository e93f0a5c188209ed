-- `row_times` meets its contract: row i of the columns is multiplied in order, the row is `Filled` below j. Assumes nothing.
use Rattle.rules.specs.ListLaws.{filled_all}
use Rattle.kernel.proofs.real.row_times.Goals as goal

pub returns : goal.returns
returns g c = filled_all _ _ _ _ c.loop-j.j c.loop-j.invariant c.loop-j-test.false
