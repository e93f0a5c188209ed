-- After the loop every word is filled. Assumes nothing.
use Rattle.std.proofs.Common.{arith}
use Rattle.rules.specs.ListLaws.{filled_all}
use Rattle.words.proofs.from_bytes.Goals as goal

pub returns : goal.returns
returns c = filled_all 0 _ _ _ _ c.loop-i.invariant (omega arith)
