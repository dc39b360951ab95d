-- left is the carry of the sizes from i on, and most is their peak; the pre-fetch holds no more
use Rattle.std.proofs.Common.{◌≡◌, ◌≤◌, drop}
use Rattle.laws.specs.Sums.{largest}
use Rattle.films.specs.Sizes.{sizes}
use Rattle.retrieval.specs.Carry.{carry, profile}
use Rattle.retrieval.specs.Stored.{max_held}
use Rattle.retrieval.proofs.Schedule.peak.Given as goal

abbrev pub invariant-loop-i : goal.invariant-loop-i
invariant-loop-i l =
    record {
      carried : l.left ≡ carry l.self.reserve (drop l.i (sizes l.self.sizes.file.now l.self.sizes.at l.self.sizes.rounds));
      peak : l.most ≡ largest (profile l.self.reserve (drop l.i (sizes l.self.sizes.file.now l.self.sizes.at l.self.sizes.rounds)));
      left_small : l.left ≤ max_held;
      most_small : l.most ≤ max_held;
    }
