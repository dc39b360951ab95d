-- The form that the code computes by, from the last round backward. The carry of a list of rounds is what they leave to be
-- read before the first of them, at b in each of them.
use Rattle.std.specs.Prelude.{List, [], ◌∷◌, ℕ, ◌+◌, ◌-◌}

abbrev pub carry : ℕ → List ℕ → ℕ
carry b [] = 0
carry b (x ∷ xs) = (x + carry b xs) - b

-- what the just-in-time schedule holds in each round (Laws.antt, `just_in_time-helds`)
abbrev pub profile : ℕ → List ℕ → List ℕ
profile b [] = []
profile b (x ∷ xs) = (x + carry b xs) ∷ profile b xs
