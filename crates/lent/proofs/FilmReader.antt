-- The film reader as a struct gives, call after call, what the film reader by value does.
use Rattle.std.specs.Prelude.{◌≡◌, refl, List, ◌∷◌, ◌++◌, map, ℕ, zero, suc, ◌+◌, length, replicate, Option, Result, Err}
use Rattle.std.proofs.Common.{◌∙◌, ap}
use Rattle.std.specs.Borrow.{Bor}
use Rattle.films.specs.Questions.{verdict}
use Rattle.films.specs.Decode.{films_of}
use Rattle.reader.specs.ReaderLaws.{given, no_more, run, reads_all, reads-refused}
use Rattle.reader.specs.declared.cursor.Entry.{Entry}
use Rattle.lent.specs.declared.film_reader.FilmReader.{FilmReader}
use Rattle.lent.specs.FilmReader.{started, entry_here, moved, entries}

-- the same as the reader by value gives
pub same_entries : (n : ℕ) (r : FilmReader) → entries n r ≡ run n r.file.now r.reader
same_entries zero r = refl
same_entries (suc n) r = ap (λ (l : List (Result (Option Entry) ℕ)). entry_here r ∷ l) (same_entries n (moved r))

-- of an accepted file: each film's number and round count in order, then no more, however often it is asked
pub gives_all : (file : Bor (List ℕ)) → verdict file.now ≡ 0 → (m : ℕ)
    → entries (length (films_of file.now) + m) (started file) ≡ map given (films_of file.now) ++ replicate m no_more
gives_all file e m = same_entries (length (films_of file.now) + m) (started file) ∙ reads_all file.now e m

-- of a refused file: its number, however often it is asked
pub gives-refused : (file : Bor (List ℕ)) → (verdict file.now ≡ 0 → ⊥) → (m : ℕ) → entries m (started file) ≡ replicate m (Err (verdict file.now))
gives-refused file n m = same_entries m (started file) ∙ reads-refused file.now n m
