-- `step` meets its contract: the columns are stepped in order, their array is `Filled` below j. Assumes nothing.
use Rattle.std.proofs.Common.{◌≡◌, ℕ, length, List, [], get_or}
use Rattle.std.specs.Prelude.{Float}
use Rattle.std.specs.Float.{Format}
use Rattle.rules.specs.Element.{real}
use Rattle.rules.specs.Held.{Held}
use Rattle.rules.specs.Lists.{Filled}
use Rattle.loops.specs.Tiles.{at, line}
use Rattle.kernel.proofs.real.step.Given as goal

-- a column of the stepped columns
abbrev pub column_stepped : {N : Type 0} → Format → Held Float N → ℕ → List N → List N → Float → List N
column_stepped f held h t x y = line held h (λ i. (real f).step (at held t i) (at held x i) y)

abbrev pub invariant-loop-j : goal.invariant-loop-j
invariant-loop-j g l =
    let held = g.R.Real.held in
    (length l.fn.y ≡ g.row.NR)
    × Filled [] g.row.NR l.j
    (λ j. column_stepped g.R.Real.format held g.row.MR (get_or l.fn.t j []) l.fn.x (at held l.fn.y j)) l.fn.t l.u
