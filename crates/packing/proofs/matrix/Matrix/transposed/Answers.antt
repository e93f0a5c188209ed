-- `transposed` meets its contract: the matrix with its rows as columns may be read. Assumes nothing.
use Rattle.layout.proofs.BasedLaws.{readable_at, readable_transposed}
use Rattle.packing.proofs.matrix.Matrix.transposed.Goals as goal

pub invariant_of-result : goal.invariant_of-result
invariant_of-result g c = record { readable = readable_at c.transpose.ensures (readable_transposed c.args.self.readable) }
