-- `read_full` answers how many bytes of the buffer it has filled. The invariant: the first `done` bytes of the buffer are what the file
-- gave. The measure is how many are left: a read that gives none ends the loop. Assumes nothing.
use Rattle.std.proofs.Common.{length, take, ◌≡◌, ◌-◌, ◌≤◌}
use Rattle.std.specs.Io.KnownBytes.{Consumes}
use Rattle.show.proofs.read_full.Given as goal

abbrev pub invariant-loop-done : goal.invariant-loop-done
invariant-loop-done g l = record {
  long : length l.buffer ≡ length l.initial.buffer;
  within : l.done ≤ length l.buffer;
  given : Consumes (g.R.Read.remaining l.initial.file) (g.R.Read.remaining l.file) (take l.done l.buffer);
}

abbrev pub decreases-loop-done : goal.decreases-loop-done
decreases-loop-done g l = length l.buffer - l.done
