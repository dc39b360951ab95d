-- Sizes where they stand in a file: four bytes each, least significant first.
use Rattle.std.specs.Prelude.{List, [], ◌∷◌, ℕ, zero, suc, ◌+◌, ◌*◌, ◌≤◌, length, get_or}
use Rattle.limits.specs.Bounds.{max_rounds, max_size}

-- the size whose bytes start at an offset
abbrev pub size : List ℕ → ℕ → ℕ
size s at = get_or s at 0 + 256 * get_or s (at + 1) 0 + 65536 * get_or s (at + 2) 0 + 16777216 * get_or s (at + 3) 0

-- the n sizes whose bytes start at an offset
abbrev pub sizes : List ℕ → ℕ → ℕ → List ℕ
sizes s at zero = []
sizes s at (suc n) = size s at ∷ sizes s (at + 4) n

-- n sizes stand at an offset of s, within the limits: what the functions below an accepted file's catalogue ask
pub record Stored (s : List ℕ) (at n : ℕ) : Type 0 where
  pub within : at + 4 * n ≤ length s
  pub few : n ≤ max_rounds
  pub small : (i : ℕ) → get_or (sizes s at n) i 0 ≤ max_size
