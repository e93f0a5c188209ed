-- `replayed::scalar_at` meets its contract: its parts are the floats of two words, whose first element it is. Assumes nothing.
use Rattle.std.proofs.Common.{◌∙◌}
use Rattle.replayed.specs.ReplayLaws.{scalar_there, scalar_by}
use Rattle.replayed.proofs.scalar_at.Goals as goal

pub returns : goal.returns
returns g c =
    c.read.ensures
    ∙ scalar_by g.T.Element.kind g.T.Real.Real.format c.after.result.now c.fill.ensures.0 g.met.T.Element.width
    c.args.call.now c.args.at c.after.ensures

pub read-requires : goal.read-requires
read-requires g c = scalar_there g.T.Element.kind g.T.Real.Real.format c.after.result.now c.fill.ensures.0
