-- `words::number_at` meets its contract. The invariant: the number is that of the bytes from `i` on. Assumes nothing.
use Rattle.words.proofs.ByteLaws.{Reading}
use Rattle.words.proofs.number_at.Given as goal

abbrev pub invariant-loop-i : goal.invariant-loop-i
invariant-loop-i l = Reading l.bytes l.width l.first l.number l.i
