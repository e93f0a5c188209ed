-- `replay::count_of` meets its contract. The invariant: `number` calls stand before the rest. Assumes nothing.
use Rattle.replay.specs.FileLaws.{Passed}
use Rattle.replay.proofs.count_of.Given as goal

abbrev pub invariant-loop-number : goal.invariant-loop-number
invariant-loop-number l = record {
  can : goal.iterator-loop-number.can_next l.calls;
  finite : goal.iterator-loop-number.is_finite l.calls;
  passed : Passed l.words l.calls.rest.now l.number;
}
