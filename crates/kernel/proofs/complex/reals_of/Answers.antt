-- `reals_of` meets its contract: below i the array is `Filled` with the column's reals. Assumes nothing.
use Rattle.rules.specs.ListLaws.{filled_all}
use Rattle.kernel.proofs.complex.reals_of.Goals as goal

pub returns : goal.returns
returns g c = filled_all _ _ _ _ c.loop-i.i c.loop-i.invariant.1 c.loop-i-test.false
