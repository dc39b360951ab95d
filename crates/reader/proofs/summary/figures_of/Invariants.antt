-- The invariant: the total and the largest size are what the first i sizes give, joined with those of the rest. Assumes nothing.
use Rattle.reader.proofs.SummaryLaws.{Adding}
use Rattle.reader.proofs.summary.figures_of.Given as goal

abbrev pub invariant-loop-i : goal.invariant-loop-i
invariant-loop-i l = Adding l.film.file.now l.film.at l.film.rounds l.total l.largest l.i
