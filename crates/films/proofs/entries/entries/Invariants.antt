-- The invariant: the entries before i are read, with their questions. Assumes nothing.
use Rattle.films.proofs.Laws.{Reading}
use Rattle.films.proofs.entries.entries.Given as goal

abbrev pub invariant-loop-i : goal.invariant-loop-i
invariant-loop-i l = Reading l.file l.count l.films.items l.at l.before l.i
