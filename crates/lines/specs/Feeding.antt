-- Bytes fed up to the end of a line, as they come.
use Rattle.std.specs.Prelude.{cond, List, [], ◌∷◌, ℕ}
use Rattle.lines.specs.Lines.{fed}
use Rattle.lines.specs.declared.Splitter.{Splitter}

-- the splitter fed up to the end of a line, or to the end of the bytes
abbrev pub fed_line : Splitter → List ℕ → Splitter
fed_line p [] = p
fed_line p (b ∷ l) = cond (fed p b).ended (fed p b) (fed_line (fed p b) l)

-- the bytes after it
abbrev pub after_line : Splitter → List ℕ → List ℕ
after_line p [] = []
after_line p (b ∷ l) = cond (fed p b).ended l (after_line (fed p b) l)
