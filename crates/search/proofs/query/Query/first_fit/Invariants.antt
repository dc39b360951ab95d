-- `search::query::Query::first_fit` meets its contract. The invariant: no start of the window before the candidate fits. The
-- measure is what is left of the window, since the next candidate is always a later start. Assumes nothing.
use Rattle.std.proofs.Common.{ℕ, suc, ◌-◌, ◌≤◌}
use Rattle.search.specs.Fit.{Query}
use Rattle.search.specs.Seen.{seen}
use Rattle.search.specs.Search.{Clear, NoneFits}
use Rattle.search.proofs.query.Query.first_fit.Given as goal

-- no start from first to the candidate's fits, and what is known of the candidate's rounds
pub record Going (q : Query) (first start clear : ℕ) : Type 0 where
  pub from : first ≤ start
  pub none : NoneFits q first start
  pub known : Clear q start clear

abbrev pub invariant-loop-c : goal.invariant-loop-c
invariant-loop-c l = Going (seen l.self) l.first l.c.start l.c.clear

abbrev pub decreases-loop-c : goal.decreases-loop-c
decreases-loop-c l = suc l.self.last - l.c.start
