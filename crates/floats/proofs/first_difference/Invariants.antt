use Rattle.std.proofs.Common.{◌≡◌, ℕ, ◌<◌, get_or}
use Rattle.floats.specs.Floats.{float_of}
use Rattle.floats.proofs.first_difference.Given as goal

abbrev pub invariant-loop-place : goal.invariant-loop-place
invariant-loop-place g l =
    (k : ℕ) → k < l.place → g.R.Real.held.is (get_or l.floats k g.R.Real.held.none) ≡ float_of g.R.Real.format (get_or l.words k 0)
