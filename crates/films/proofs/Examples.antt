-- Small files and their verdicts, by computation: one of each number, and the order of the questions. Assumes nothing.
use Rattle.std.specs.Prelude.{◌≡◌, refl, [], ◌∷◌, ◌++◌, take}
use Rattle.films.specs.Layout.{encode}
use Rattle.films.specs.Questions.{head_questions, exceeds, rounds_in_range, size_questions, file_questions, verdict}
use Rattle.films.specs.Examples.{empty, film1}

pub whole : verdict (encode (film1 ∷ [])) ≡ 0
unfolding verdict file_questions head_questions exceeds rounds_in_range size_questions
whole = refl

pub film-0 : verdict (encode (empty 0 ∷ empty 1 ∷ [])) ≡ 0
unfolding verdict file_questions head_questions exceeds rounds_in_range size_questions
film-0 = refl

pub nothing : verdict [] ≡ 1
unfolding verdict file_questions head_questions
nothing = refl

pub no-films : verdict (encode []) ≡ 2
unfolding verdict file_questions head_questions
no-films = refl

pub entries-cut : verdict (take 5 (encode (film1 ∷ []))) ≡ 1
unfolding verdict file_questions head_questions
entries-cut = refl

pub same_number : verdict (encode (empty 1 ∷ empty 1 ∷ [])) ≡ 3
unfolding verdict file_questions head_questions exceeds rounds_in_range size_questions
same_number = refl

pub no-rounds : verdict (encode (record { number = 1; sizes = [] } ∷ [])) ≡ 4
unfolding verdict file_questions head_questions exceeds rounds_in_range size_questions
no-rounds = refl

-- entry by entry: the first entry's n is asked before the second's number
pub first-entry-first : verdict (encode (record { number = 1; sizes = [] } ∷ empty 1 ∷ [])) ≡ 4
unfolding verdict file_questions head_questions exceeds rounds_in_range size_questions
first-entry-first = refl

-- of one entry the number before the n
pub number-first : verdict (encode (empty 1 ∷ record { number = 1; sizes = [] } ∷ [])) ≡ 3
unfolding verdict file_questions head_questions exceeds rounds_in_range size_questions
number-first = refl

pub other-count : verdict (1 ∷ 0 ∷ 1 ∷ 0 ∷ 1 ∷ 0 ∷ 2 ∷ 0 ∷ 0 ∷ 0 ∷ []) ≡ 5
unfolding verdict file_questions head_questions exceeds rounds_in_range size_questions
other-count = refl

pub sizes-cut : verdict (take 33 (encode (film1 ∷ []))) ≡ 1
unfolding verdict file_questions head_questions exceeds rounds_in_range size_questions
sizes-cut = refl

pub largest_size : verdict (encode (record { number = 1; sizes = 16777215 ∷ [] } ∷ [])) ≡ 0
unfolding verdict file_questions head_questions exceeds rounds_in_range size_questions
largest_size = refl

pub large-size : verdict (encode (record { number = 1; sizes = 16777216 ∷ [] } ∷ [])) ≡ 6
unfolding verdict file_questions head_questions exceeds rounds_in_range size_questions
large-size = refl

pub byte-after : verdict (encode (film1 ∷ []) ++ (0 ∷ [])) ≡ 7
unfolding verdict file_questions head_questions exceeds rounds_in_range size_questions
byte-after = refl
