-- The session of document 01, 'The program', computed: the commands of its input. And lines that are no command.
use Rattle.std.specs.Prelude.{◌≡◌, refl, [], ◌∷◌, map, Some, None}
use Rattle.commands.specs.Bytes.{bytes}
use Rattle.commands.specs.Grammar.{open_of, book_of, drop_of, play_of, by_verb, command_of}
use Rattle.lines.specs.Lines.{lines}
use Rattle.commands.specs.declared.Command.TheVariants.{Open, Book, Drop, Play}
use Rattle.lines.specs.Session.{session_input}

pub session-read : map command_of (lines session_input) ≡ (
    Some (Open 20 141433 18)
    ∷ Some (Book (record { name = 1; film = 1; prefetch = 1; reserve = 6; cabs = 1; first = 0; last = 0 }))
    ∷ Some (Book (record { name = 2; film = 1; prefetch = 1; reserve = 6; cabs = 2; first = 0; last = 10 }))
    ∷ Some (Book (record { name = 3; film = 1; prefetch = 1; reserve = 6; cabs = 1; first = 0; last = 5 }))
    ∷ Some Play
    ∷ Some Play
    ∷ [])
unfolding command_of by_verb open_of book_of play_of
session-read = refl

-- lines that are no command, each for one reason: a space at the end, one in front, two together, a lower case verb, a sign, a
-- numeral too few, one too many, no digit, 21 digits, a number of 65 bits, a name of 33, a tab, an empty line
pub no-commands : map command_of (lines (bytes
    "PLAY \n PLAY\nOPEN  1 2 3\nplay\nDROP +1\nOPEN 1 2\nPLAY 1\nDROP x\nDROP 000000000000000000001\nOPEN 1 1 18446744073709551616\nDROP 4294967296\nDROP\t1\n\n")) ≡ (
    None ∷ None ∷ None ∷ None ∷ None ∷ None ∷ None ∷ None ∷ None ∷ None ∷ None ∷ None ∷ None ∷ [])
unfolding command_of by_verb open_of book_of drop_of play_of
no-commands = refl

-- the largest numerals, with leading zeros up to 20 digits
pub largest : map command_of (lines (bytes "OPEN 18446744073709551615 00000000000000000007 0\nDROP 4294967295")) ≡ (
    Some (Open 18446744073709551615 7 0) ∷ Some (Drop 4294967295) ∷ [])
unfolding command_of by_verb open_of book_of drop_of play_of
largest = refl
