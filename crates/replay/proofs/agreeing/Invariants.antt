-- `replay::agreeing` meets its contract. The invariant: of the calls before the rest, `agreed` are of the kind and agree. Assumes nothing.
use Rattle.std.specs.Iterator.Adapters.{enumerate_source, enumerate_count}
use Rattle.replay.specs.FileLaws.{Tallied}
use Rattle.replay.proofs.agreeing.Given as goal

abbrev pub invariant-loop-number : goal.invariant-loop-number
invariant-loop-number g l = record {
  can : (goal.iterator-loop-number g).can_next l.number-iterator;
  finite : (goal.iterator-loop-number g).is_finite l.number-iterator;
  tallied : Tallied l.kind l.words (enumerate_source l.number-iterator).rest.now l.agreed (enumerate_count l.number-iterator);
}
