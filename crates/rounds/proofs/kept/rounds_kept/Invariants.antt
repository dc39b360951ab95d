-- The invariant: every round is kept exactly if those from t on are. The measure is what is left of the day: a block has one round at least.
use Rattle.std.proofs.Common.{◌-◌, ◌≤◌, ◌≡◌, length}
use Rattle.loss.specs.Loss.{loss_at}
use Rattle.rounds.specs.Kept.{kept_in, in_rounds}
use Rattle.rounds.proofs.kept.rounds_kept.Given as goal

abbrev pub invariant-loop-t : goal.invariant-loop-t
invariant-loop-t l =
    record {
      within : l.t ≤ l.day_rounds;
      size : length l.words ≡ 3000;
      kept : in_rounds 0 l.day_rounds (kept_in l.file loss_at l.day.disk l.day.memory l.fn.xs) ≡ in_rounds l.t (l.day_rounds - l.t) (kept_in l.file loss_at l.day.disk l.day.memory l.fn.xs);
    }

abbrev pub decreases-loop-t : goal.decreases-loop-t
decreases-loop-t l = l.day_rounds - l.t
