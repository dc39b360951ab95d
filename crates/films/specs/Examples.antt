-- Small files and their verdicts, by computation: one of each number, and the order of the questions. Assumes nothing.
use Rattle.std.specs.Prelude.{[], ◌∷◌, ℕ}
use Rattle.films.specs.Layout.{Film}

-- film 1 of document 01's figures
abbrev pub film1 : Film
film1 = record { number = 1; sizes = 8 ∷ 8 ∷ 8 ∷ 2 ∷ 6 ∷ 4 ∷ [] }

-- a film of no bytes
abbrev pub empty : ℕ → Film
empty k = record { number = k; sizes = 0 ∷ [] }
