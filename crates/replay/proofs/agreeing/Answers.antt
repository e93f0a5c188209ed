-- `replay::agreeing`: the loop counts one call after the other. Assumes nothing.
use Rattle.std.proofs.Common.{rules}
use Rattle.replay.specs.FileLaws.{one_agrees, one_disagrees}
use Rattle.replay.proofs.agreeing.Goals as goal

pub loop-number-preserved-then-agrees : goal.loop-number-preserved-then-agrees
loop-number-preserved-then-agrees g c =
    let step = c.in-Some.ensures.steps in
    record {
      can = search rules;
      finite = search rules;
      tallied = one_agrees c.loop-number.invariant.tallied step.0 step.2 c.agrees.ensures c.if-agrees.true;
    }

pub loop-number-preserved : goal.loop-number-preserved
loop-number-preserved g c =
    let step = c.in-Some.ensures.steps in
    record {
      can = search rules;
      finite = search rules;
      tallied = one_disagrees c.loop-number.invariant.tallied step.0 step.2 c.agrees.ensures c.if-agrees.false;
    }
