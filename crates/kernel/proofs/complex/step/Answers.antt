-- `step` meets its contract: before j the tile's columns have the step's products added. Assumes nothing.
use Rattle.rules.specs.ListLaws.{filled_all}
use Rattle.loops.specs.Tiles.{stepped}
use Rattle.kernel.proofs.complex.step.Goals as goal

pub returns : goal.returns
unfolding stepped
returns g c = filled_all _ _ _ _ c.loop-j.j c.loop-j.invariant.2 c.loop-j-test.false
