-- The splitter gives out the lines of the input, each whole or as over-long: `splits`. So the commands of a session are those of
-- its lines: `session-commands`. The idea: the splitter holds what is kept of the bytes u since the last end of a line. Assumes nothing.
use Rattle.std.specs.Prelude.{ℕ, min, ◌≡◌, Bool, true, not, List, ltb, eqb, length, take}
use Rattle.limits.specs.Bounds.{max_line}
use Rattle.laws.specs.Tests.{all}
use Rattle.commands.specs.Bytes.{line_end}
use Rattle.lines.specs.Lines.{continued}
use Rattle.lines.specs.declared.Splitter.{Splitter}

-- ---- Lines

-- a byte inside a line
abbrev pub inside : ℕ → Bool
inside b = not (eqb b line_end)

-- ---- What the splitter holds

pub record Held (s : Splitter) (u : List ℕ) : Type 0 where
  pub room : length s.bytes ≡ max_line
  pub size : s.length ≡ min (length u) max_line
  pub front : take s.length s.bytes ≡ take max_line u
  pub over : s.over ≡ ltb max_line (length u)

-- ---- An input from the bytes u on that are held: a splitter that has ended a line holds none

pub record Stands (s : Splitter) (u : List ℕ) : Type 0 where
  pub held : Held (continued s) u
  pub plain : all inside u ≡ true
  pub ended : s.ended ≡ eqb (length u) 0
