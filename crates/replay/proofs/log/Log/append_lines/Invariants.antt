-- The words of the lines so far were appended.
use Rattle.std.proofs.Common.{take}
use Rattle.replay.specs.Log.{lines_words, Appended}
use Rattle.replay.proofs.log.Log.append_lines.Given as goal

abbrev pub invariant-loop-line : goal.invariant-loop-line
invariant-loop-line l = Appended l.initial.self (lines_words (take l.line-index l.lines)) l.self
