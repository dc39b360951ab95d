-- The invariant: the rounds before t are summed. The measure is what is left of the rounds: a block has one at least.
use Rattle.std.proofs.Common.{◌-◌, ◌≤◌, ◌≡◌, length}
use Rattle.model.specs.Code.{SameLists}
use Rattle.rounds.specs.Sums.{sums_in}
use Rattle.rounds.specs.Sheet.{Summed}
use Rattle.rounds.proofs.sheet.sum_sheet.Given as goal

abbrev pub invariant-loop-t : goal.invariant-loop-t
invariant-loop-t l =
    record {
      from : l.from ≤ l.t;
      to : l.t ≤ l.to;
      size : length l.words ≡ 3000;
      lists : SameLists l.initial.sheet l.sheet;
      summed : Summed (λ k. sums_in l.file k l.fn.xs) l.from l.t l.initial.sheet.opens.now l.initial.sheet.reserves.now l.initial.sheet.helds.now l.sheet.opens.now l.sheet.reserves.now l.sheet.helds.now;
    }

abbrev pub decreases-loop-t : goal.decreases-loop-t
decreases-loop-t l = l.to - l.t
