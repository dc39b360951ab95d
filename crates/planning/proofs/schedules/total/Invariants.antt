use Rattle.std.proofs.Common.{◌≡◌, ◌≤◌, ◌*◌, take}
use Rattle.limits.specs.Bounds.{max_size}
use Rattle.laws.specs.Sums.{sum}
use Rattle.films.specs.Sizes.{sizes}
use Rattle.planning.proofs.schedules.total.Given as goal

abbrev pub invariant-loop-i : goal.invariant-loop-i
invariant-loop-i l =
    record {
      so_far : l.bytes ≡ sum (take l.i (sizes l.film.file.now l.film.at l.film.rounds));
      small : l.bytes ≤ max_size * l.i;
    }
