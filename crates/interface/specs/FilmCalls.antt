-- What the calls on a film file answer, as plain numbers: the paper's number and values of each answer, 0 where there is none.
use Rattle.std.specs.Prelude.{List, ℕ, Option, Some, None, Result, Ok, Err}
use Rattle.films.specs.Questions.{verdict}
use Rattle.reader.specs.Reader.{step_of}
use Rattle.reader.specs.declared.cursor.Entry.{Entry}
use Rattle.reader.specs.declared.summary.Figures as summary
use Rattle.interface.specs.declared.film_calls.Film.{Film}
use Rattle.interface.specs.declared.film_calls.Figures.{Figures}
use Rattle.interface.specs.declared.film_calls.Size.{Size}

-- the film reader's entry: `more` is 1 where there is one
abbrev pub film_of : Result (Option Entry) ℕ → Film
film_of (Ok (Some e)) = record { refusal = 0; more = 1; number = e.number; rounds = e.rounds }
film_of (Ok None) = record { refusal = 0; more = 0; number = 0; rounds = 0 }
film_of (Err k) = record { refusal = k; more = 0; number = 0; rounds = 0 }

-- what a film reader of the file that has given so many entries gives next
abbrev pub entry_of : List ℕ → ℕ → Result (Option Entry) ℕ
entry_of file position = (step_of file (record { refusal = verdict file; position = position })).entry

-- "total bytes, largest size, and the mean total/n rounded down"
abbrev pub figures_of : Result summary.Figures ℕ → Figures
figures_of (Ok f) = record { refusal = 0; total = f.total; largest = f.largest; mean = f.mean }
figures_of (Err k) = record { refusal = k; total = 0; largest = 0; mean = 0 }

-- a round's size: `exists` is 1 where the film has that round
abbrev pub size_of : Result (Option ℕ) ℕ → Size
size_of (Ok (Some x)) = record { refusal = 0; exists = 1; bytes = x }
size_of (Ok None) = record { refusal = 0; exists = 0; bytes = 0 }
size_of (Err k) = record { refusal = k; exists = 0; bytes = 0 }
