-- A film where it stands in the file: its sends, round by round. Assumes nothing.
use Rattle.std.specs.Prelude.{List, ℕ, ◌*◌, ◌≤◌}
use Rattle.limits.specs.Bounds.{max_rounds, max_size, max_prefetch, max_reserve}
use Rattle.films.specs.Sizes.{sizes, Stored}
use Rattle.films.specs.declared.film.Sizes.{Sizes}
use Rattle.retrieval.specs.Schedule.{sends}

-- what a film sends in each of its rounds, p of pre-fetch and then one for each of its n sizes, which stand at an offset
abbrev pub sends_at : List ℕ → ℕ → ℕ → ℕ → List ℕ
sends_at s at n p = sends p (sizes s at n)

-- the same of a film's sizes
abbrev pub sends_in : Sizes → ℕ → List ℕ
sends_in z p = sends_at z.file.now z.at z.rounds p

-- n sizes stand at an offset, and pre-fetch and reserve are within their bounds
pub record InRange (s : List ℕ) (at n p b : ℕ) : Type 0 where
  pub stored : Stored s at n
  pub prefetch : p ≤ max_prefetch
  pub reserve : b ≤ max_reserve

-- bytes that a film holds in a round, at most
abbrev pub max_held : ℕ
max_held = max_size * max_rounds
