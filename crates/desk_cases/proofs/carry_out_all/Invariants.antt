-- The measure is what is left of the script: every operation moves on.
use Rattle.std.proofs.Common.{length}
use Rattle.desk_cases.proofs.carry_out_all.Given as goal

abbrev pub decreases-operations : goal.decreases-operations
decreases-operations g l = length l.rest
