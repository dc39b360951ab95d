-- The invariant: the answer is that of the bookings that are left, and the measure is how many they are.
use Rattle.std.proofs.Common.{◌≡◌, length}
use Rattle.model.specs.Soundness.{names_differ}
use Rattle.load.proofs.names.names_differ.Given as goal

abbrev pub invariant-loop-rest : goal.invariant-loop-rest
invariant-loop-rest l = names_differ l.rows ≡ names_differ l.rest

abbrev pub decreases-loop-rest : goal.decreases-loop-rest
decreases-loop-rest l = length l.rest
