-- The lines of an input (document 01, 'The program'), and the splitter that finds them byte by byte.
use Rattle.std.specs.Prelude.{ℕ, ◌+◌, true, false, cond, List, [], ◌∷◌, leb, ltb, eqb, length, take, set, replicate, Option, Some, None}
use Rattle.limits.specs.Bounds.{max_line}
use Rattle.commands.specs.Bytes.{line_end}
use Rattle.commands.specs.Grammar.{command_of}
use Rattle.commands.specs.declared.Command.{Command}
use Rattle.lines.specs.declared.Splitter.{Splitter}

-- a byte in front of the first line; it is a line itself if there is none
abbrev pub longer : ℕ → List (List ℕ) → List (List ℕ)
longer b [] = (b ∷ []) ∷ []
longer b (w ∷ ws) = (b ∷ w) ∷ ws

-- "A line ends at byte 10 or the end of input; no line follows a final byte 10."
abbrev pub lines : List ℕ → List (List ℕ)
lines [] = []
lines (b ∷ l) = cond (eqb b line_end) ([] ∷ lines l) (longer b (lines l))

-- what is kept of a line: all of it, or that it is over-long
abbrev pub kept : List ℕ → Option (List ℕ)
kept w = cond (leb (length w) max_line) (Some w) None

-- the command of what is kept of a line: an over-long line is none
abbrev pub command_held : Option (List ℕ) → Option Command
command_held None = None
command_held (Some w) = command_of w

-- ---- The splitter

abbrev pub started : Splitter
started = record { bytes = replicate max_line 0; length = 0; over = false; ended = true }

-- the line that the next byte belongs to
unfoldable pub continued : Splitter → Splitter
continued s = cond s.ended (record { bytes = s.bytes; length = 0; over = false; ended = false }) s

-- the line with one byte more
unfoldable pub appended : Splitter → ℕ → Splitter
appended s b =
    cond (ltb s.length max_line)
    (record { bytes = set s.bytes s.length b; length = s.length + 1; over = s.over; ended = s.ended })
    (record { bytes = s.bytes; length = s.length; over = true; ended = s.ended })

unfoldable pub fed : Splitter → ℕ → Splitter
fed s b =
    cond (eqb b line_end)
    (record { bytes = (continued s).bytes; length = (continued s).length; over = (continued s).over; ended = true })
    (appended (continued s) b)

-- the line held
abbrev pub held_of : Splitter → Option (List ℕ)
held_of s = cond s.over None (Some (take s.length s.bytes))

-- the lines that a splitter gives out on an input: one after each byte that ends a line, and one that the end of input ends
abbrev pub given : Splitter → List ℕ → List (Option (List ℕ))
given s [] = cond s.ended [] (held_of s ∷ [])
given s (b ∷ l) = cond (fed s b).ended (held_of (fed s b) ∷ given (fed s b) l) (given (fed s b) l)
