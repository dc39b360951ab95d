-- The film file's layout. Document 01, 'The film file'.
use Rattle.std.specs.Prelude.{Bool, false, cond, ◌||◌, List, [], ◌∷◌, ◌++◌, ℕ, ◌+◌, ◌^◌, ◌≤◌, ◌<◌, length, get_or, eqb}
use Rattle.laws.specs.Words.{bytes}
use Rattle.limits.specs.Bounds.{max_films, max_rounds, max_size}

-- a film: its number, and for each of its rounds "the bytes that film sends in one round"
pub record Film : Type 0 where
  pub number : ℕ
  pub sizes : List ℕ

-- its round count n
abbrev pub rounds : Film → ℕ
rounds f = length f.sizes

-- "F entries of a 16-bit film number and a 16-bit round count n"
abbrev pub entries : List Film → List ℕ
entries [] = []
entries (f ∷ fs) = (bytes 2 f.number ++ bytes 2 (rounds f)) ++ entries fs

-- "sizes .., film after film"
abbrev pub all_sizes : List Film → List ℕ
all_sizes [] = []
all_sizes (f ∷ fs) = f.sizes ++ all_sizes fs

-- "S sizes of 32 bits"
abbrev pub size_bytes : List ℕ → List ℕ
size_bytes [] = []
size_bytes (x ∷ xs) = bytes 4 x ++ size_bytes xs

-- "S is the sum of the n."
abbrev pub round_sum : List Film → ℕ
round_sum [] = 0
round_sum (f ∷ fs) = rounds f + round_sum fs

-- "Two sections stand in fixed order, each after its count": a 16-bit F and the entries, a 32-bit S and the sizes; "nothing
-- follows the last size"
abbrev pub encode : List Film → List ℕ
encode fs = (bytes 2 (length fs) ++ entries fs) ++ (bytes 4 (round_sum fs) ++ size_bytes (all_sizes fs))

-- "Numbers strictly rise."
abbrev pub Rising : List Film → Type 0
Rising [] = Unit {0}
Rising (f ∷ []) = Unit {0}
Rising (f ∷ g ∷ fs) = (f.number < g.number) × Rising (g ∷ fs)

-- a film within the limits: a 16-bit number, "each n 1 to 4,096 and each size at most 16,777,215"
pub record ValidFilm (f : Film) : Type 0 where
  pub number : f.number < 2 ^ 16
  pub some : 1 ≤ rounds f
  pub few : rounds f ≤ max_rounds
  pub small : (i : ℕ) → get_or f.sizes i 0 ≤ max_size

abbrev pub Each : List Film → Type 0
Each [] = Unit {0}
Each (f ∷ fs) = ValidFilm f × Each fs

-- "F is 1 to 64"
pub record Valid (fs : List Film) : Type 0 where
  pub some : 1 ≤ length fs
  pub few : length fs ≤ max_films
  pub rising : Rising fs
  pub each : Each fs

-- ---- looking a film up

-- "is the film in the file?"
abbrev pub in_file : List Film → ℕ → Bool
in_file [] k = false
in_file (f ∷ fs) k = eqb f.number k || in_file fs k

-- its sizes
abbrev pub sizes_of : List Film → ℕ → List ℕ
sizes_of [] k = []
sizes_of (f ∷ fs) k = cond (eqb f.number k) f.sizes (sizes_of fs k)
