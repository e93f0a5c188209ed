-- `reals_into` meets its contract: below i the array holds the panel's reals from `first` on. Assumes nothing.
use Rattle.rules.specs.ListLaws.{filled_all}
use Rattle.kernel.proofs.reads.reals_into.Goals as goal

pub returns : goal.returns
returns g c = filled_all _ _ _ _ c.loop-i.i c.loop-i.invariant.1 c.loop-i-test.false
