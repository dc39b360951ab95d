-- `search::query::Query::first_over_memory` meets its contract. The invariant: the rounds before j are free. Assumes nothing.
use Rattle.std.proofs.Common.{◌≡◌, ℕ, ◌<◌, true}
use Rattle.search.specs.Fit.{memory_free}
use Rattle.search.specs.Seen.{seen}
use Rattle.search.proofs.query.Query.first_over_memory.Given as goal

abbrev pub invariant-loop-j : goal.invariant-loop-j
invariant-loop-j l = (i : ℕ) → i < l.j → memory_free (seen l.self) l.s i ≡ true
