-- `replay::count_of`: the loop passes one call after the other. Assumes nothing.
use Rattle.replay.specs.FileLaws.{one_passed}
use Rattle.replay.proofs.count_of.Goals as goal

pub loop-number-preserved : goal.loop-number-preserved
loop-number-preserved c =
    record { can = tt; finite = tt; passed = one_passed c.next.result c.loop-number.invariant.passed c.next.ensures.steps (cc) }
