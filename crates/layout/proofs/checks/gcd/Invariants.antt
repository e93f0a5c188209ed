-- `gcd` meets its contract: each step of Euclid's keeps what collisions need of the divisor. Assumes nothing.
use Rattle.std.proofs.Common.{ℕ, ◌<◌}
use Rattle.layout.specs.Splits.{LeastSteps}
use Rattle.layout.proofs.checks.gcd.Given as goal

abbrev pub invariant-loop-y : goal.invariant-loop-y
invariant-loop-y l = record { some : 0 < l.x; steps : (g : ℕ) → LeastSteps l.x l.y g → LeastSteps l.a l.b g }

abbrev pub decreases-loop-y : goal.decreases-loop-y
decreases-loop-y l = l.y
