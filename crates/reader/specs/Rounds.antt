-- The size of a film's round. Document 01: "A size is the bytes that film sends in one round".
use Rattle.std.specs.Prelude.{cond, List, [], ◌∷◌, ℕ, length, get_or, eqb, ltb, Option, Some, None, Result, Ok, Err}
use Rattle.laws.specs.Questions.{refusal}
use Rattle.films.specs.Layout.{sizes_of}
use Rattle.films.specs.Decode.{films_of}
use Rattle.reader.specs.Summary.{summary_questions}

-- the file's questions, then "is the film in the file? 8."; of an accepted film the size of round i, if it has that round
unfoldable pub round_size_of : List ℕ → ℕ → ℕ → Result (Option ℕ) ℕ
round_size_of s k i =
    cond (eqb (refusal (summary_questions s k)) 0)
    (Ok (cond (ltb i (length (sizes_of (films_of s) k))) (Some (get_or (sizes_of (films_of s) k) i 0)) None))
    (Err (refusal (summary_questions s k)))

-- the size of round i, if there is one
abbrev pub size_in : List ℕ → ℕ → List ℕ
size_in xs i = cond (ltb i (length xs)) (get_or xs i 0 ∷ []) []

-- the paper's values of the answer
abbrev pub round_values : {E : Type 0} → Result (Option ℕ) E → List ℕ
round_values (Ok (Some x)) = x ∷ []
round_values (Ok None) = []
round_values (Err refusal) = []
