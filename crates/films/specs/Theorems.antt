-- Demand 2: "The film reader accepts exactly the files of the stated layout.", and what an accepted file's sizes and length are
-- at most. Assumes nothing.
use Rattle.std.specs.Prelude.{ℕ, ◌≡◌, List}
use Rattle.films.specs.Layout.{Film, encode, Valid}

-- a file of the stated layout: the encoding of some valid films
pub record OfLayout (s : List ℕ) : Type 0 where
  pub films : List Film
  pub valid : Valid films
  pub bytes : s ≡ encode films
