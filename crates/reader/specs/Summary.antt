-- A film's summary. Document 01: "Film summary: total bytes, largest size, and the mean total/n rounded down."
use Rattle.std.specs.Prelude.{cond, List, [], ◌∷◌, ℕ, ◌/◌, length, eqb, Result, Ok, Err}
use Rattle.laws.specs.Questions.{Question, refusal}
use Rattle.laws.specs.Sums.{sum, largest}
use Rattle.limits.specs.Refusals.{no_film}
use Rattle.films.specs.Layout.{in_file, sizes_of}
use Rattle.films.specs.Questions.{file}
use Rattle.films.specs.Decode.{films_of}
use Rattle.reader.specs.declared.summary.Figures.{Figures}

-- "the mean total/n rounded down"
unfoldable pub mean : ℕ → ℕ → ℕ
mean total n = total / n

-- "total bytes, largest size, and the mean", of a film's sizes
abbrev pub figures : List ℕ → List ℕ
figures xs = sum xs ∷ largest xs ∷ mean (sum xs) (length xs) ∷ []

unfoldable pub figures_of : List ℕ → Figures
figures_of xs = record { total = sum xs; largest = largest xs; mean = mean (sum xs) (length xs) }

-- the file's questions, then "Summary: is the film in the file? 8."
unfoldable pub summary_questions : List ℕ → ℕ → List Question
summary_questions s k = file s ∷ (in_file (films_of s) k, no_film) ∷ []

unfoldable pub summary_of : List ℕ → ℕ → Result Figures ℕ
summary_of s k =
    cond (eqb (refusal (summary_questions s k)) 0) (Ok (figures_of (sizes_of (films_of s) k))) (Err (refusal (summary_questions s k)))

-- the paper's values of a summary
abbrev pub summary_values : {E : Type 0} → Result Figures E → List ℕ
summary_values (Ok f) = f.total ∷ f.largest ∷ f.mean ∷ []
summary_values (Err refusal) = []
