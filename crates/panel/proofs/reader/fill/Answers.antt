-- `panel::reader::fill` meets its contract. The invariant: the reals before `i` are the file's. Assumes nothing.
use Rattle.std.proofs.Common.{arith}
use Rattle.floats.proofs.FloatLaws.{floats_tab}
use Rattle.panel.proofs.reader.fill.Goals as goal

pub returns : goal.returns
returns g c =
    floats_tab g.met.R.Real.each c.loop-i.numbers _ _ _ c.loop-i.auto.numbers (λ k m. c.loop-i.invariant k (omega arith))
