-- What was read lies within the buffer. The measure is what is left of it.
use Rattle.std.proofs.Common.{◌-◌, ◌≤◌, length}
use Rattle.hall.proofs.read_whole.Given as goal

abbrev pub invariant-loop-done : goal.invariant-loop-done
invariant-loop-done g l = l.done ≤ length l.bytes

abbrev pub decreases-loop-done : goal.decreases-loop-done
decreases-loop-done g l = length l.bytes - l.done
