-- The films of a file's bytes. Total; an accepted file's films are these (Theorems).
use Rattle.std.specs.Prelude.{List, ℕ, ◌+◌, ◌*◌}
use Rattle.films.specs.Layout.{Film}
use Rattle.films.specs.Sizes.{sizes}
use Rattle.films.specs.Span.{span}
use Rattle.films.specs.Questions.{films_in, entry_number, entry_rounds, rounds_before, sizes_at}

-- where the sizes of entry i's film begin: "film after film"
abbrev pub offset : List ℕ → ℕ → ℕ
offset s i = sizes_at s + 4 * rounds_before s i

-- entry i's film
abbrev pub film_at : List ℕ → ℕ → Film
film_at s i = record { number = entry_number s i; sizes = sizes s (offset s i) (entry_rounds s i) }

unfoldable pub films_of : List ℕ → List Film
films_of s = span (film_at s) 0 (films_in s)
