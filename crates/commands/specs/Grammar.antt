-- The command grammar (document 01, 'The program').
use Rattle.std.specs.Prelude.{ℕ, ◌+◌, ◌-◌, ◌*◌, ◌^◌, Bool, cond, ◌&&◌, List, [], ◌∷◌, map, leb, ltb, eqb, length, get_or, Option, Some, None}
use Rattle.std.specs.Str.{bytes_eq}
use Rattle.limits.specs.Bounds.{max_line, max_digits}
use Rattle.limits.specs.Refusals.{command_form}
use Rattle.laws.specs.Tests.{all}
use Rattle.commands.specs.Bytes.{space, digit_zero, digit_nine, bytes}
use Rattle.commands.specs.declared.Command.{Command}
use Rattle.commands.specs.declared.Command.TheVariants.{Open, Book, Drop, Play}

-- ---- Words: "with single spaces". Two spaces together, one in front or one at the end part off an empty word.

-- the bytes before the first space
abbrev pub first_word : List ℕ → List ℕ
first_word [] = []
first_word (b ∷ l) = cond (eqb b space) [] (b ∷ first_word l)

-- the words after it, each from one space to the next
abbrev pub later_words : List ℕ → List (List ℕ)
later_words [] = []
later_words (b ∷ l) = cond (eqb b space) (first_word l ∷ later_words l) (later_words l)

-- ---- Numerals: "numerals of 1 to 20 digits fitting 64 bits, and names 32". Base ten; leading zeros count as digits.

abbrev pub is_digit : ℕ → Bool
is_digit b = leb digit_zero b && leb b digit_nine

-- v with the digits of w written after it
abbrev pub value_from : ℕ → List ℕ → ℕ
value_from v [] = v
value_from v (b ∷ w) = value_from (10 * v + (b - digit_zero)) w

abbrev pub value : List ℕ → ℕ
value w = value_from 0 w

abbrev pub is_numeral : List ℕ → Bool
is_numeral w = ltb 0 (length w) && leb (length w) max_digits && all is_digit w && ltb (value w) (2 ^ 64)

abbrev pub is_name : ℕ → Bool
is_name n = ltb n (2 ^ 32)

-- ---- Commands: "OPEN T D M; BOOK name film p b cabs first last; DROP name; PLAY"

-- the verbs, as fixed strings of bytes
abbrev pub open_word : List ℕ
open_word = bytes "OPEN"

abbrev pub book_word : List ℕ
book_word = bytes "BOOK"

abbrev pub drop_word : List ℕ
drop_word = bytes "DROP"

abbrev pub play_word : List ℕ
play_word = bytes "PLAY"

-- each command from the numerals after its verb: T D M
unfoldable pub open_of : List ℕ → Option Command
open_of ns = cond (eqb (length ns) 3) (Some (Open (get_or ns 0 0) (get_or ns 1 0) (get_or ns 2 0))) None

-- name film p b cabs first last
unfoldable pub book_of : List ℕ → Option Command
book_of ns =
    cond (eqb (length ns) 7 && is_name (get_or ns 0 0))
    (Some (Book
    (record {
      name = get_or ns 0 0;
      film = get_or ns 1 0;
      prefetch = get_or ns 2 0;
      reserve = get_or ns 3 0;
      cabs = get_or ns 4 0;
      first = get_or ns 5 0;
      last = get_or ns 6 0;
    })))
    None

-- name
unfoldable pub drop_of : List ℕ → Option Command
drop_of ns = cond (eqb (length ns) 1 && is_name (get_or ns 0 0)) (Some (Drop (get_or ns 0 0))) None

-- nothing
unfoldable pub play_of : List ℕ → Option Command
play_of ns = cond (eqb (length ns) 0) (Some Play) None

-- the verb decides
unfoldable pub by_verb : List ℕ → List ℕ → Option Command
by_verb verb ns =
    cond (bytes_eq verb open_word) (open_of ns)
    (cond (bytes_eq verb book_word) (book_of ns) (cond (bytes_eq verb drop_word) (drop_of ns) (cond (bytes_eq verb play_word) (play_of ns) None)))

-- the paper's number for each case: 24 for a line that is no command, and none, 0, for a command
abbrev pub command_number : Option Command → ℕ
command_number (Some c) = 0
command_number None = command_form

-- "Is the line one of these, at most 200 bytes, with numerals of 1 to 20 digits fitting 64 bits, and names 32? 24."
unfoldable pub command_of : List ℕ → Option Command
command_of line =
    cond (leb (length line) max_line && all is_numeral (later_words line))
    (by_verb (first_word line) (map value (later_words line)))
    None
