-- Looking a film up in a catalogue: "is the film in the file?" (8), and where its sizes stand.
use Rattle.std.specs.Prelude.{◌≡◌, true, false, List, [], ◌∷◌, ℕ, ◌≤◌, Option, Some, None, find, eqb}
use Rattle.std.specs.Option.{option_map}
use Rattle.limits.specs.Refusals.{no_film}
use Rattle.films.specs.Layout.{Film, in_file, sizes_of}
use Rattle.films.specs.Sizes.{sizes, Stored}
use Rattle.films.specs.Decode.{films_of}
use Rattle.films.specs.declared.file.Entry.{Entry}
use Rattle.films.specs.declared.lookup.Place.{Place}

-- an entry's place in the file
abbrev pub place_of : Entry → Place
place_of entry = record { at = entry.at; rounds = entry.rounds }

-- of any list of entries: the place of the first with the number
unfoldable pub lookup_in : List Entry → ℕ → Option Place
lookup_in films k = option_map place_of (find (λ entry. eqb entry.number k) films)

-- the paper's number and values of a lookup: "is the film in the file? 8.", where its sizes begin and its n
abbrev pub lookup_refusal : Option Place → ℕ
lookup_refusal (Some place) = 0
lookup_refusal None = no_film

abbrev pub lookup_values : Option Place → List ℕ
lookup_values (Some place) = place.at ∷ place.rounds ∷ []
lookup_values None = []

-- film k is in the file, and its n sizes stand at an offset
pub record FoundAt (s : List ℕ) (k at n : ℕ) : Type 0 where
  pub inside : in_file (films_of s) k ≡ true
  pub are : sizes_of (films_of s) k ≡ sizes s at n
  pub stored : Stored s at n
  pub some : 1 ≤ n

-- what a lookup in an accepted file's catalogue says of the file
abbrev pub Says : List ℕ → ℕ → Option Place → Type 0
Says s k (Some place) = FoundAt s k place.at place.rounds
Says s k None = in_file (films_of s) k ≡ false

-- ---- the law of the calls above

-- the same of the films fs, for any part of the file's
abbrev pub Part : List ℕ → List Film → ℕ → Option Place → Type 0
Part s fs k (Some place) = (in_file fs k ≡ true) × ((sizes_of fs k ≡ sizes s place.at place.rounds) × (Stored s place.at place.rounds × (1 ≤ place.rounds)))
Part s fs k None = in_file fs k ≡ false
