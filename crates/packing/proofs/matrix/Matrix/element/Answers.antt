-- `element` meets its contract: each place is inside the slice. Assumes nothing.
use Rattle.std.proofs.Common.{arith}
use Rattle.layout.proofs.BasedLaws.{index_lt, reached}
use Rattle.packing.proofs.matrix.Matrix.element.Goals as goal

pub place-requires : goal.place-requires
place-requires g c = let a = c.args in reached a.self.readable a.i a.j c.requires.0 c.requires.1

pub read-requires : goal.read-requires
read-requires g c = let a = c.args in omega (arith, c.place.ensures, index_lt a.self.readable a.i a.j c.requires.0 c.requires.1)
