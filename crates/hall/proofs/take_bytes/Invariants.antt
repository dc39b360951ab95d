-- The measure is what is left of the bytes: serving a line leaves fewer.
use Rattle.std.proofs.Common.{length}
use Rattle.hall.proofs.take_bytes.Given as goal

abbrev pub decreases-loop-rest : goal.decreases-loop-rest
decreases-loop-rest g l = length l.rest
