-- The output text (document 01, 'The program'): "Each output line ends with byte 10, its fields parted by one space."
use Rattle.std.specs.Prelude.{ℕ, zero, suc, ◌+◌, ◌/◌, ◌%◌, cond, List, [], ◌∷◌, ◌++◌, ltb}
use Rattle.std.specs.List.{fold}
use Rattle.limits.specs.Bounds.{max_digits}
use Rattle.model.specs.declared.Line.{Line}
use Rattle.model.specs.declared.Answer.{Answer}
use Rattle.model.specs.declared.Answer.TheVariants.{Refused, Opened, Booked, Dropped, Played}
use Rattle.commands.specs.Bytes.{line_end, space, digit_zero, bytes}

-- n in base ten with no leading zero, if it has at most k digits: a number below ten is its digit, any other the numeral of
-- its tenth with its last digit after it
unfoldable pub spell : ℕ → ℕ → List ℕ
spell zero n = []
spell (suc k) n = cond (ltb n 10) ((digit_zero + n) ∷ []) (spell k (n / 10) ++ (digit_zero + n % 10) ∷ [])

-- a number of 64 bits has at most 20 digits
abbrev pub decimal : ℕ → List ℕ
decimal n = spell max_digits n

-- a field that is not the first
abbrev pub field : ℕ → List ℕ
field n = space ∷ decimal n

-- a line's first field and numbers, each after a space
abbrev pub fields : List ℕ → List ℕ → List ℕ
fields first numbers = fold (λ text n. text ++ field n) first numbers

abbrev pub end : List ℕ
end = line_end ∷ []

-- ---- The output words, as fixed strings of bytes

abbrev pub no_word : List ℕ
no_word = bytes "NO"

abbrev pub opened_word : List ℕ
opened_word = bytes "OPENED"

abbrev pub booked_word : List ℕ
booked_word = bytes "BOOKED"

abbrev pub dropped_word : List ℕ
dropped_word = bytes "DROPPED"

abbrev pub round_word : List ℕ
round_word = bytes "ROUND"

-- ---- The output lines

-- "A refusal prints NO and its number." "An accepted OPEN prints OPENED; DROP prints DROPPED and the name."
-- "BOOKED name start; ROUND round open cabs": the name is the command's, the round the one that was played.
unfoldable pub answer_fields : ℕ → ℕ → Answer → List ℕ
answer_fields name round (Refused number) = no_word ++ field number
answer_fields name round Opened = opened_word
answer_fields name round (Booked start) = booked_word ++ field name ++ field start
answer_fields name round Dropped = dropped_word ++ field name
answer_fields name round (Played films cabs) = round_word ++ field round ++ field films ++ field cabs

abbrev pub answer_text : ℕ → ℕ → Answer → List ℕ
answer_text name round answer = answer_fields name round answer ++ end

-- "then name read send held"
abbrev pub line_text : Line → List ℕ
line_text l = decimal l.name ++ field l.read ++ field l.send ++ field l.held ++ end

-- a report, line after line
abbrev pub report_text : List Line → List ℕ
report_text [] = []
report_text (l ∷ ls) = line_text l ++ report_text ls
