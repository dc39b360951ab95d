-- The session of document 01, 'The program', computed: the commands of its input. And lines that are no command.
use Rattle.std.specs.Prelude.{ℕ, List}
use Rattle.commands.specs.Bytes.{bytes}

abbrev pub session_input : List ℕ
session_input =
    bytes "OPEN 20 141433 18\nBOOK 1 1 1 6 1 0 0\nBOOK 2 1 1 6 2 0 10\nBOOK 3 1 1 6 1 0 5\nPLAY\nPLAY\n"
