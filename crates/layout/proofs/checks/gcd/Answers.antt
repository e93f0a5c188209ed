-- The divisor of what is left is the divisor of the whole. Assumes nothing.
use Rattle.std.proofs.Math.Nat.{pos_of_ne-zero}
use Rattle.layout.specs.Gcd.{steps_end, steps_back}
use Rattle.layout.proofs.checks.gcd.Goals as goal

pub loop-y-preserved : goal.loop-y-preserved
loop-y-preserved c =
    let h = pos_of_ne-zero c.loop-y-test.true in
    record { some = h; steps = λ g s. c.loop-y.invariant.steps g (steps_back c.loop-y.x c.loop-y.y g h s) }

pub returns : goal.returns
returns c =
    let h = c.loop-y.invariant.some in
    let x = c.loop-y.x in
    (h, c.loop-y.invariant.steps x (rw c.loop-y-test.false (steps_end x h)))
