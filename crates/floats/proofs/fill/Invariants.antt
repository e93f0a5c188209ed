use Rattle.std.proofs.Common.{◌≡◌, ℕ, ◌<◌, get_or}
use Rattle.floats.specs.Floats.{float_of}
use Rattle.floats.proofs.fill.Given as goal

abbrev pub invariant-loop-i : goal.invariant-loop-i
invariant-loop-i g l =
    (k : ℕ) → k < l.i → g.R.Real.held.is (get_or l.floats k g.R.Real.held.none) ≡ float_of g.R.Real.format (get_or l.words k 0)
