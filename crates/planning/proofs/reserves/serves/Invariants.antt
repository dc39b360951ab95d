-- left is the carry of the sizes from i on, and their peak is at most the cap
use Rattle.std.proofs.Common.{◌≡◌, ◌≤◌, drop}
use Rattle.laws.specs.Sums.{largest}
use Rattle.films.specs.Sizes.{sizes}
use Rattle.retrieval.specs.Carry.{carry, profile}
use Rattle.retrieval.specs.Stored.{max_held}
use Rattle.planning.proofs.reserves.serves.Given as goal

abbrev pub invariant-loop-i : goal.invariant-loop-i
invariant-loop-i l =
    record {
      carried : l.left ≡ carry l.film.reserve (drop l.i (sizes l.film.sizes.file.now l.film.sizes.at l.film.sizes.rounds));
      peak : largest (profile l.film.reserve (drop l.i (sizes l.film.sizes.file.now l.film.sizes.at l.film.sizes.rounds))) ≤ l.cap;
      small : l.left ≤ max_held;
    }
