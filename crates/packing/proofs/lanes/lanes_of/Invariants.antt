-- `lanes_of` meets its contract: the first i of w lanes are filled, the others are +0. Assumes nothing.
use Rattle.std.proofs.Common.{◌≡◌, ℕ, ◌<◌}
use Rattle.rules.specs.Lists.{Filled}
use Rattle.element.specs.Kinds.{arith_of}
use Rattle.loops.specs.Tiles.{up_to}
use Rattle.packing.proofs.lanes.lanes_of.Given as goal

abbrev pub invariant-loop-i : goal.invariant-loop-i
invariant-loop-i g l =
    (h : ℕ → (arith_of g.T.Element.kind).E) → ((i : ℕ) (r : _) → i < l.w → goal.F-post g l.f i r → g.T.Element.held.is r ≡ h i)
    → Filled g.T.Element.held.none g.row.N l.i (λ k. g.T.Element.held.of (up_to (arith_of g.T.Element.kind) l.w h k)) l.initial.x l.x
