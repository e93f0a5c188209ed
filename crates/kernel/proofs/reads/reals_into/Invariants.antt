-- `reals_into` meets its contract: below i the array holds the panel's reals from `first` on. Assumes nothing.
use Rattle.std.proofs.Common.{◌≡◌, length, ◌+◌, get_or}
use Rattle.std.specs.Float.{nan}
use Rattle.rules.specs.Lists.{Filled}
use Rattle.kernel.proofs.reads.reals_into.Given as goal

abbrev pub invariant-loop-i : goal.invariant-loop-i
invariant-loop-i g l =
    let held = g.R.Real.held in
    (length l.x ≡ g.row.N)
    × Filled held.none g.row.N l.i (λ k. held.of (get_or (g.R.Real.floats l.s) (l.first + k) nan)) l.initial.x l.x
