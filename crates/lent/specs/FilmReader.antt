-- The film reader as a struct that holds the file's bytes. Document 01: "A film reader is lent the file's bytes and moves on entry by
-- entry, giving each film's number and n; after the last it says that there is no more, and stays there. It starts only on an accepted
-- file." Assumes nothing.
use Rattle.std.specs.Prelude.{List, [], ◌∷◌, ℕ, zero, suc, Option, Result}
use Rattle.std.specs.Borrow.{Bor}
use Rattle.reader.specs.Reader.{start_of, step_of}
use Rattle.reader.specs.declared.cursor.Entry.{Entry}
use Rattle.lent.specs.declared.film_reader.FilmReader.{FilmReader}

-- a reader at the first entry of an accepted file; of another it carries the refusal
abbrev pub started : Bor (List ℕ) → FilmReader
started file = record { file = file; reader = start_of file.now }

-- the entry that it gives, and the reader moved past it
abbrev pub entry_here : FilmReader → Result (Option Entry) ℕ
entry_here r = (step_of r.file.now r.reader).entry

abbrev pub moved : FilmReader → FilmReader
moved r = record { file = r.file; reader = (step_of r.file.now r.reader).reader }

-- ---- call after call

-- what n calls give
abbrev pub entries : ℕ → FilmReader → List (Result (Option Entry) ℕ)
entries zero r = []
entries (suc n) r = entry_here r ∷ entries n (moved r)
