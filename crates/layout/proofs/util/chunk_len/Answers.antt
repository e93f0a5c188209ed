-- `chunk_len` meets its contract: a chunk that is there begins below n. Assumes nothing.
use Rattle.std.proofs.Common.{arith}
use Rattle.rules.specs.Element.{chunk_length}
use Rattle.layout.specs.ChunkLaws.{chunk_start}
use Rattle.layout.proofs.util.chunk_len.Goals as goal

pub overflow_mul-i : goal.overflow_mul-i
overflow_mul-i c = omega (arith, chunk_start c.args.chunk c.args.n c.args.i c.requires)

pub overflow_sub-n : goal.overflow_sub-n
overflow_sub-n c = omega (arith, chunk_start c.args.chunk c.args.n c.args.i c.requires)

pub returns : goal.returns
unfolding chunk_length
returns c = c.min.ensures
