-- `column_times` meets its contract: below i the column is `Filled` with alpha times the sums, and it is +0 at first. Assumes nothing.
use Rattle.std.proofs.Common.{ℕ, List}
use Rattle.std.specs.Float.{Format}
use Rattle.rules.specs.Element.{Complex, complex}
use Rattle.rules.specs.Held.{Held}
use Rattle.rules.specs.Lists.{Filled}
use Rattle.loops.specs.Tiles.{up_to, at}
use Rattle.kernel.proofs.complex.column_times.Given as goal

-- row i of the column
abbrev pub row : {Z : Type 0} → Format → Held Complex Z → ℕ → Z → List Z → ℕ → Complex
row f held rows alpha t = up_to (complex f) rows (λ i. (complex f).mul (held.is alpha) (at held t i))

abbrev pub invariant-loop-i : goal.invariant-loop-i
invariant-loop-i g l =
    let held = g.Z.Paired.held in
    Filled held.none g.row.MR l.i (λ k. held.of (row g.Z.Real.Real.format held l.fn.rows l.fn.alpha l.fn.t k)) l.initial.u l.u
