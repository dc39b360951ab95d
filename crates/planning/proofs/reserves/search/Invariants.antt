-- hi serves, and whatever serves is at least lo
use Rattle.std.proofs.Common.{ℕ, ◌≤◌, ◌-◌}
use Rattle.retrieval.specs.LeastReserve.{Serves}
use Rattle.retrieval.specs.Stored.{sends_in}
use Rattle.planning.proofs.reserves.search.Given as goal

abbrev pub invariant-loop-lo : goal.invariant-loop-lo
invariant-loop-lo l =
    record {
      order : l.lo ≤ l.hi;
      within : l.hi ≤ l.film.reserve;
      serves : Serves (sends_in l.film.sizes l.film.prefetch) l.cap l.hi;
      least : (b : ℕ) → Serves (sends_in l.film.sizes l.film.prefetch) l.cap b → l.lo ≤ b;
    }

abbrev pub decreases-loop-lo : goal.decreases-loop-lo
decreases-loop-lo l = l.hi - l.lo
