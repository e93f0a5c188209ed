use Rattle.std.proofs.Common.{◌≡◌, ℕ, ◌<◌, get_or}
use Rattle.panel.specs.File.{element_in}
use Rattle.panel.proofs.reader.fill.Given as goal

abbrev pub invariant-loop-i : goal.invariant-loop-i
invariant-loop-i g l =
    (k : ℕ) → k < l.i → g.R.Real.held.is (get_or l.numbers k g.R.Real.held.none) ≡ element_in g.R.Real.format l.file k
