-- `part` meets its contract: a part of a matrix that may be read may be read. Assumes nothing.
use Rattle.std.proofs.Common.{arith}
use Rattle.layout.proofs.BasedLaws.{reached, readable_at, readable_based}
use Rattle.packing.proofs.matrix.Matrix.part.Goals as goal

pub based_at-requires : goal.based_at-requires
based_at-requires g c = let a = c.args in reached a.self.readable a.i a.j (omega arith) (omega arith)

pub invariant_of-result : goal.invariant_of-result
invariant_of-result g c =
    let a = c.args in
    record {
      readable = readable_at c.based_at.ensures
          (readable_based a.self.readable a.i a.j a.rows a.columns (omega arith) (omega arith) (omega arith) (omega arith));
    }
