-- `store_half` meets its contract: one half of the first i lanes is spliced in. Assumes nothing.
use Rattle.std.proofs.Common.{◌≡◌, Float}
use Rattle.rules.specs.Element.{Complex}
use Rattle.rules.specs.Lists.{splice}
use Rattle.element.specs.Numbers.{complex_held}
use Rattle.loops.specs.Panels.{singles}
use Rattle.loops.specs.Tiles.{at}
use Rattle.packing.proofs.complex.store_half.Given as goal

abbrev pub invariant-loop-i : goal.invariant-loop-i
invariant-loop-i g l =
    (h : Complex → Float)
    → ((z : _) (r : _) → goal.F-post g l.half z r → g.R.Real.held.is r ≡ h ((complex_held g.R.Real.held).is z))
    → g.R.Real.floats l.pack
    ≡ splice (g.R.Real.floats l.initial.pack) l.start (singles l.i (λ i. h (at (complex_held g.R.Real.held) l.x i)))
