-- A file of the layout is accepted, and its films are those that were encoded. The reads go by what is left of the file from an
-- offset on. Assumes nothing.
use Rattle.std.specs.Prelude.{ℕ, suc, ◌≡◌, true, leb}
use mathlib.Core.List.{List, [], ◌∷◌}
use Rattle.laws.specs.Tests.{all}
use Rattle.limits.specs.Bounds.{max_size}
use Rattle.films.specs.Layout.{Film, rounds}
use Rattle.films.specs.Questions.{entry_number, entry_rounds}

-- ---- the sizes

abbrev pub Small : List ℕ → Type 0
Small xs = all (λ x. leb x max_size) xs ≡ true

-- ---- the entries

-- the entries from i on are those of the films
abbrev pub Matches : List ℕ → ℕ → List Film → Type 0
Matches s i [] = Unit {0}
Matches s i (f ∷ fs) = ((entry_number s i ≡ f.number) × (entry_rounds s i ≡ rounds f)) × Matches s (suc i) fs
