-- `commands::parse` meets its contract. The invariant: the numerals read and the words left make the line's command. The measure is
-- what is left of the line. Assumes nothing.
use Rattle.std.proofs.Common.{ℕ, ◌+◌, ◌≡◌, List, length, Option, Some, None, Bor}
use Rattle.commands.specs.Grammar.{command_of}
use Rattle.commands.specs.Words.{words_from}
use Rattle.commands.proofs.Commands.{command_from}
use Rattle.commands.proofs.parse.Given as goal

abbrev pub invariant-loop-rest : goal.invariant-loop-rest
invariant-loop-rest l = command_of l.line ≡ command_from l.verb l.numerals.items (words_from l.rest)

abbrev left : Option (Bor (List ℕ)) → ℕ
left None = 0
left (Some rest) = length rest.now + 1

abbrev pub decreases-loop-rest : goal.decreases-loop-rest
decreases-loop-rest l = left l.rest
