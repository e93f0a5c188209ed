-- `words::from_bytes` meets its contract. The invariant: the words before `i` are filled, the others as they were. Assumes nothing.
use Rattle.std.proofs.Common.{length}
use Rattle.rules.specs.Lists.{Filled}
use Rattle.words.specs.Words.{word_of}
use Rattle.words.proofs.from_bytes.Given as goal

abbrev pub invariant-loop-i : goal.invariant-loop-i
invariant-loop-i l = Filled 0 (length l.initial.words) l.i (word_of l.bytes) l.initial.words l.words
