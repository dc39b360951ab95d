-- The totals are written from place k on, sent is C(k-1), and the larger of it and due - b is A(k-1); both are totals of the film.
use Rattle.std.proofs.Common.{◌≡◌, ◌∷◌, ◌≤◌, ◌<◌, ◌-◌, max, get_or}
use Rattle.retrieval.specs.Schedule.{totals}
use Rattle.retrieval.specs.JustInTime.{just_in_time}
use Rattle.retrieval.specs.Stored.{sends_in, max_held}
use Rattle.retrieval.specs.SheetLaws.{onto_from}
use Rattle.planning.proofs.schedules.write_totals.Given as goal

abbrev pub invariant-loop-k : goal.invariant-loop-k
invariant-loop-k l =
    record {
      sends : l.sent ≡ get_or (0 ∷ totals 0 (sends_in l.film.sizes l.film.prefetch)) l.k 0;
      sent_small : l.sent ≤ max_held;
      due_small : l.due ≤ max_held;
      rule : 0 < l.k → max l.sent (l.due - l.film.reserve) ≡ get_or (just_in_time l.film.reserve 0 (sends_in l.film.sizes l.film.prefetch)) (l.k - 1) 0;
      laid : l.out ≡ onto_from l.k (λ x r. r) l.initial.out (just_in_time l.film.reserve 0 (sends_in l.film.sizes l.film.prefetch));
    }
