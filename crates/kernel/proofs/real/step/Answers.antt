-- `step` meets its contract: the columns are stepped in order, their array is `Filled` below j. Assumes nothing.
use Rattle.rules.specs.ListLaws.{filled_all}
use Rattle.loops.specs.Tiles.{stepped}
use Rattle.kernel.proofs.real.step.Goals as goal

pub returns : goal.returns
unfolding stepped
returns g c = filled_all _ _ _ _ c.loop-j.j c.loop-j.invariant.1 c.loop-j-test.false
