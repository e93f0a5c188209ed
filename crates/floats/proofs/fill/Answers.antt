-- `floats::fill` meets its contract. The invariant: the reals before `i` are the words'. Assumes nothing.
use Rattle.std.proofs.Common.{arith, rules}
use Rattle.floats.proofs.FloatLaws.{floats_tab}
use Rattle.floats.proofs.fill.Goals as goal

pub returns : goal.returns
returns g c =
    (floats_tab g.met.R.Real.each c.loop-i.floats _ _ _ c.loop-i.auto.floats (λ k m. c.loop-i.invariant k (omega arith)), search rules)
