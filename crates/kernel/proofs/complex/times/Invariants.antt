-- `times` meets its contract: before j the tile is `Filled` with columns whose first rows are alpha times what they were. Assumes nothing.
use Rattle.std.proofs.Common.{ℕ, List, [], get_or}
use Rattle.std.specs.Float.{Format}
use Rattle.rules.specs.Element.{Complex, complex}
use Rattle.rules.specs.Held.{Held}
use Rattle.rules.specs.Lists.{Filled}
use Rattle.loops.specs.Tiles.{up_to, at, line}
use Rattle.kernel.proofs.complex.times.Given as goal

-- the first rows of a column times alpha, +0 in the others
abbrev pub timed : {Z : Type 0} → Format → Held Complex Z → ℕ → ℕ → Z → List Z → List Z
timed f held h rows alpha x = line held h (up_to (complex f) rows (λ i. (complex f).mul (held.is alpha) (at held x i)))

abbrev pub invariant-loop-j : goal.invariant-loop-j
invariant-loop-j g l =
    Filled [] g.row.NR l.j (λ j. timed g.Z.Real.Real.format g.Z.Paired.held g.row.MR l.fn.rows l.fn.alpha (get_or l.fn.t j [])) l.fn.t l.u
