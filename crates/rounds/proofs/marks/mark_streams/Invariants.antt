use Rattle.std.proofs.Common.{◌≡◌, take, map}
use Rattle.rounds.specs.Table.{marked_of}
use Rattle.rounds.proofs.marks.mark_streams.Given as goal

abbrev pub invariant-loop-x : goal.invariant-loop-x
invariant-loop-x l = l.marked.items ≡ map (marked_of l.file) (take l.x-index l.xs)
