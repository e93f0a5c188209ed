-- `write` meets its contract: two reals are stored, one after the other. Assumes nothing.
use Rattle.element.proofs.StoreLaws.{reals_stored}
use Rattle.element.proofs.complex.Complex.write.Goals as goal

pub returns : goal.returns
returns g c = let a = c.args in reals_stored g.met.R.Real.each a.s.now a.at a.self.re a.self.im c.requires
