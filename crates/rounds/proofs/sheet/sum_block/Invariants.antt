-- The invariant: the block's first k rounds are summed.
use Rattle.std.proofs.Common.{ℕ, ◌+◌, ◌≡◌, length, List}
use Rattle.model.specs.Code.{SameLists}
use Rattle.load.specs.declared.stream.Stream.{Stream}
use Rattle.rounds.specs.Rows.{BlockOf}
use Rattle.rounds.specs.Sums.{sums_in}
use Rattle.rounds.specs.Sheet.{Summed}
use Rattle.rounds.proofs.sheet.sum_block.Given as goal

abbrev pub invariant-loop-k : goal.invariant-loop-k
invariant-loop-k l =
    record {
      lists : SameLists l.initial.sheet l.sheet;
      opens : length l.sheet.opens.now ≡ length l.initial.sheet.opens.now;
      reserves : length l.sheet.reserves.now ≡ length l.initial.sheet.reserves.now;
      helds : length l.sheet.helds.now ≡ length l.initial.sheet.helds.now;
      summed : (f : List ℕ) (ys : List Stream) → BlockOf f ys l.b l.words → Summed (λ t. sums_in f t ys) l.b.from (l.b.from + l.k) l.initial.sheet.opens.now l.initial.sheet.reserves.now l.initial.sheet.helds.now l.sheet.opens.now l.sheet.reserves.now l.sheet.helds.now;
    }
