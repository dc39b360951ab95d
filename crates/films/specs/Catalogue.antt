-- The catalogue of a file: what later calls look films up in, without reading the file again.
use Rattle.std.specs.Prelude.{Bool, true, cond, List, [], ℕ, ltb, eqb, Option, Some, None}
use Rattle.films.specs.Span.{span}
use Rattle.films.specs.Questions.{verdict, films_in, entry_number, entry_rounds}
use Rattle.films.specs.Decode.{offset}
use Rattle.films.specs.declared.file.Entry.{Entry}

-- entry i's number, its round count, and where its film's sizes begin
abbrev pub entry_of : List ℕ → ℕ → Entry
entry_of s i = record { number = entry_number s i; rounds = entry_rounds s i; at = offset s i }

-- an accepted file's entries
unfoldable pub listed : List ℕ → List Entry
listed s = span (entry_of s) 0 (films_in s)

-- .. and a refused file's: no film
unfoldable pub catalogue_of : List ℕ → List Entry
catalogue_of s = cond (eqb (verdict s) 0) (listed s) []

-- does an entry's number exceed the one before? The first entry has none before it.
abbrev pub rises : Option ℕ → ℕ → Bool
rises None number = true
rises (Some before) number = ltb before number
