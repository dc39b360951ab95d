-- What question 16 asks of each booking by itself, but for its schedule.
use Rattle.std.specs.Prelude.{Bool, not, ◌&&◌, List, ℕ, ◌≤◌, ◌<◌, length, get_or, leb, eqb}
use Rattle.limits.specs.Bounds.{max_prefetch, max_reserve, max_day}
use Rattle.films.specs.Sizes.{Stored}
use Rattle.load.specs.Stream.{no_stream, end_of}
use Rattle.load.specs.declared.stream.Stream.{Stream}

-- "s+p+n ≤ T"
unfoldable pub ends_by : ℕ → Stream → Bool
ends_by T x = leb (end_of x) T

-- "each passes 8, 9, 10, 20 ..; s+p+n ≤ T"
unfoldable pub basic_of : ℕ → Stream → Bool
basic_of T x =
    leb 1 x.rounds
    && (leb x.prefetch max_prefetch && (leb x.reserve max_reserve && (not (eqb x.cabs 0) && ends_by T x)))

-- a stream within the bounds: no sum of its numbers wraps
pub record Bounded (x : Stream) : Type 0 where
  pub some : 1 ≤ x.rounds
  pub prefetch : x.prefetch ≤ max_prefetch
  pub reserve : x.reserve ≤ max_reserve
  pub ends : end_of x ≤ max_day

-- within the bounds, with its sizes in the file
pub record Playable (f : List ℕ) (x : Stream) : Type 0 where
  pub bounded : Bounded x
  pub stored : Stored f x.at x.rounds

-- "s+p+n ≤ T"
abbrev pub Within : ℕ → Stream → Type 0
Within T x = end_of x ≤ T

-- of each stream
abbrev pub EachOf : (Stream → Type 0) → List Stream → Type 0
EachOf P xs = (i : ℕ) → i < length xs → P (get_or xs i no_stream)
