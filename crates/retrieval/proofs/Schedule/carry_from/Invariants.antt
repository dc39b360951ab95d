-- left is the carry of the rounds from k on
use Rattle.std.proofs.Common.{◌≡◌, ◌≤◌, drop}
use Rattle.retrieval.specs.Carry.{carry}
use Rattle.retrieval.specs.Stored.{sends_in, max_held}
use Rattle.retrieval.proofs.Schedule.carry_from.Given as goal

abbrev pub invariant-loop-k : goal.invariant-loop-k
invariant-loop-k l =
    record {
      from : l.t ≤ l.k;
      carried : l.left ≡ carry l.self.reserve (drop l.k (sends_in l.self.sizes l.self.prefetch));
      small : l.left ≤ max_held;
    }
