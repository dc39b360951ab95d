-- What an accepted file's bytes are, number by number: the questions all hold. Assumes nothing.
use Rattle.std.specs.Prelude.{ℕ, ◌+◌, ◌*◌, ◌<◌, ◌≤◌, ◌≡◌, true, List, [], ◌∷◌, length}
use Rattle.laws.specs.Questions.{Question}
use Rattle.limits.specs.Bounds.{max_films}
use Rattle.films.specs.Questions.{films_in, rounds_before, sizes_in, sizes_at, exceeds, few_rounds, small_sizes}

-- no question's number is 0
abbrev pub Numbered : List Question → Type 0
Numbered [] = Unit {0}
Numbered (q ∷ qs) = (0 < q.1) × Numbered qs

-- each question holds
abbrev pub Holds : List Question → Type 0
Holds [] = Unit {0}
Holds (q ∷ qs) = (q.0 ≡ true) × Holds qs

-- entry i passes its two questions
abbrev pub Passes : List ℕ → ℕ → Type 0
Passes s i = (exceeds s i ≡ true) × (few_rounds s i ≡ true)

-- ---- all of them

pub record Accepted (s : List ℕ) : Type 0 where
  pub some : 1 ≤ films_in s
  pub few : films_in s ≤ max_films
  pub passes : (i : ℕ) → i < films_in s → Passes s i
  pub total : sizes_in s ≡ rounds_before s (films_in s)
  pub small : small_sizes s (sizes_at s) (sizes_in s) ≡ true
  pub ends : length s ≡ sizes_at s + 4 * sizes_in s

-- what the last five questions hold
abbrev pub SizesHold : List ℕ → Type 0
SizesHold s =
    (sizes_in s ≡ rounds_before s (films_in s))
    × ((small_sizes s (sizes_at s) (sizes_in s) ≡ true) × (length s ≡ sizes_at s + 4 * sizes_in s))
