-- `step` meets its contract: before j the tile's columns have the step's products added. Assumes nothing.
use Rattle.std.proofs.Common.{◌≡◌, ℕ, length, List, [], get_or}
use Rattle.std.specs.Prelude.{Float}
use Rattle.std.specs.Float.{Format}
use Rattle.rules.specs.Element.{Complex, complex}
use Rattle.rules.specs.Held.{Held}
use Rattle.rules.specs.Lists.{Filled}
use Rattle.loops.specs.Tiles.{at, line}
use Rattle.kernel.specs.Parts.{both}
use Rattle.kernel.proofs.complex.step.Given as goal

-- a column with the products of its element b of B added
abbrev pub added : {N Z : Type 0} → Format → Held Float N → Held Complex Z → ℕ → List N → List N → Complex → List Z → List Z
added f real held h pp qq b t = line held h (λ i. (complex f).step (at held t i) (both real pp qq i) b)

abbrev pub invariant-loop-j : goal.invariant-loop-j
invariant-loop-j g l =
    let r = g.Z.Real.Real in
    (length l.rr ≡ g.row.NR)
    × (length l.ss ≡ g.row.NR)
    × Filled [] g.row.NR l.j
    (λ j. added r.format r.held g.Z.Paired.held g.row.MR l.pp l.qq (both r.held l.rr l.ss j) (get_or l.fn.t j [])) l.fn.t l.u
