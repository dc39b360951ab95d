-- The invariant: every round of the block is kept exactly if those after the first k are.
use Rattle.std.proofs.Common.{ℕ, ◌+◌, ◌-◌, ◌≡◌, List}
use Rattle.load.specs.declared.stream.Stream.{Stream}
use Rattle.rounds.specs.Rows.{BlockOf}
use Rattle.rounds.specs.Sums.{sums_in}
use Rattle.rounds.specs.Kept.{sums_kept, in_rounds, loss_in}
use Rattle.rounds.proofs.kept.block_kept.Given as goal

abbrev pub invariant-loop-k : goal.invariant-loop-k
invariant-loop-k l = (f : List ℕ) (ys : List Stream) → BlockOf f ys l.b l.words → in_rounds l.b.from l.b.rounds (λ t. sums_kept (loss_in l.losses) l.day.disk l.day.memory (sums_in f t ys)) ≡ in_rounds (l.b.from + l.k) (l.b.rounds - l.k) (λ t. sums_kept (loss_in l.losses) l.day.disk l.day.memory (sums_in f t ys))
