-- `contiguous` meets its contract: each neighbour is inside a. Assumes nothing.
use Rattle.std.proofs.Common.{length}
use Rattle.std.proofs.iter.Serving.{serving}
use Rattle.element.specs.FloatLaws.{length_floats}
use Rattle.packing.proofs.RowFloats.{elements_few}
use Rattle.packing.proofs.lanes.contiguous.Goals as goal

pub lanes_of-requires : goal.lanes_of-requires
lanes_of-requires g c =
    let A = g.T.Real.Real.floats c.args.a.now in
    grind (serving, elements_few g.T.Element.kind (length A), length_floats g.met.T.Real.Real.each c.args.a.now)
