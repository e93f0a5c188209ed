-- `store` meets its contract: the first i lanes are spliced in. Assumes nothing.
use Rattle.std.proofs.Common.{◌≡◌}
use Rattle.rules.specs.Lists.{splice}
use Rattle.loops.specs.Panels.{singles}
use Rattle.loops.specs.Tiles.{at}
use Rattle.packing.proofs.real.store.Given as goal

abbrev pub invariant-loop-i : goal.invariant-loop-i
invariant-loop-i g l =
    g.R.Real.floats l.pack ≡ splice (g.R.Real.floats l.initial.pack) l.start (singles l.i (at g.R.Real.held l.x))
