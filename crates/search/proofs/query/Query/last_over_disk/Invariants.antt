-- `search::query::Query::last_over_disk` meets its contract. The invariant: the rounds from t on are free. Assumes nothing.
use Rattle.std.proofs.Common.{◌≡◌, ℕ, ◌≤◌, ◌<◌, true}
use Rattle.search.specs.Fit.{disk_free}
use Rattle.search.specs.Seen.{seen}
use Rattle.search.proofs.query.Query.last_over_disk.Given as goal

abbrev pub invariant-loop-t : goal.invariant-loop-t
invariant-loop-t l = (j : ℕ) → l.t ≤ j → j < l.e → disk_free (seen l.self) j ≡ true
