use Rattle.std.proofs.Common.{◌≡◌, ◌≤◌, take}
use Rattle.limits.specs.Bounds.{max_size}
use Rattle.laws.specs.Sums.{largest}
use Rattle.films.specs.Sizes.{sizes}
use Rattle.planning.proofs.reserves.largest.Given as goal

abbrev pub invariant-loop-i : goal.invariant-loop-i
invariant-loop-i l = (l.most ≡ largest (take l.i (sizes l.film.file.now l.film.at l.film.rounds))) × (l.most ≤ max_size)
