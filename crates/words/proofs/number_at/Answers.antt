-- One more byte is read. Assumes nothing.
use Rattle.words.proofs.ByteLaws.{one_read}
use Rattle.words.proofs.number_at.Goals as goal

pub loop-i-preserved : goal.loop-i-preserved
loop-i-preserved c =
    let byte = c.byte_at-byte in
    one_read c.loop-i.invariant byte.result c.loop-i-test.true byte.ensures.0 byte.ensures.1
