-- `times` meets its contract: the rows are multiplied and stored in order, the tile is `Filled` below i, and +0 at first. Assumes nothing.
use Rattle.std.proofs.Common.{ℕ, List, []}
use Rattle.std.specs.Prelude.{Float}
use Rattle.std.specs.Float.{Format}
use Rattle.rules.specs.Element.{real}
use Rattle.rules.specs.Held.{Held}
use Rattle.rules.specs.Lists.{Filled}
use Rattle.loops.specs.Panels.{padded}
use Rattle.loops.specs.Tiles.{line, cell}
use Rattle.kernel.proofs.real.times.Given as goal

-- row i of the tile
abbrev pub row : {N : Type 0} → Format → Held Float N → ℕ → N → List (List N) → ℕ → ℕ → List N
row f held w alpha t rows i = line held w (padded (real f) rows (λ i j. (real f).mul (held.is alpha) (cell held t j i)) i)

abbrev pub invariant-loop-i : goal.invariant-loop-i
invariant-loop-i g l =
    Filled [] g.row.MR l.i (row g.R.Real.format g.R.Real.held g.row.NR l.alpha l.fn.t l.rows) l.initial.tile l.tile
