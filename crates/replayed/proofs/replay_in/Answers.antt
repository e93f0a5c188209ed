-- `replayed::replay_in` meets its contract: the slices are filled one behind the other, the call is run, and what it left is compared.
-- Assumes nothing.
use Rattle.element.specs.FloatLaws.{length_floats}
use Rattle.replayed.specs.ReplayLaws.{replayed_by}
use Rattle.replayed.proofs.replay_in.Goals as goal

pub returns : goal.returns
returns g c =
    replayed_by g.met.T.Element.width c.args.call.now _
    c.after.ensures c.fill-b_words.ensures c.fill-c_words.ensures c.fill-recorded.ensures
    (length_floats g.met.T.Real.Real.each c.args.pack.now) c.answer-r.ensures c.answer_number.ensures c.compared.ensures
