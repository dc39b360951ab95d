-- The invariant: of whatever bookings the words are, `sums` is that of the first i, so that the others added to it are the sums of all.
use Rattle.std.proofs.Common.{ℕ, ◌+◌, ◌≡◌, drop, List}
use Rattle.load.specs.declared.stream.Stream.{Stream}
use Rattle.rounds.specs.Rows.{BlockOf}
use Rattle.rounds.specs.Sums.{sums_from, sums_in}
use Rattle.rounds.specs.SumLaws.{Within}
use Rattle.rounds.proofs.sums.round_sums.Given as goal

abbrev pub invariant-loop-i : goal.invariant-loop-i
invariant-loop-i l =
    record {
      small : Within l.sums l.i;
      summed : (f : List ℕ) (ys : List Stream) → BlockOf f ys l.fn.b l.words → sums_in f (l.fn.b.from + l.k) ys ≡ sums_from f (l.fn.b.from + l.k) l.sums (drop l.i ys);
    }
