-- The file's questions over its bytes, in the paper's order. Document 01, 'Questions at the counter', File. A byte past the
-- end reads as 0; no question reads one before the question that asks whether it is there.
use Rattle.std.specs.Prelude.{Bool, true, ◌&&◌, List, [], ◌∷◌, ◌++◌, ℕ, zero, suc, ◌+◌, ◌*◌, length, get_or, leb, ltb, eqb}
use Rattle.laws.specs.Tests.{all}
use Rattle.laws.specs.Questions.{Question, refusal}
use Rattle.limits.specs.Bounds.{max_films, max_rounds, max_size}
use Rattle.limits.specs.Refusals.{truncated, film_count, film_order, round_count, size_count, size_bound, trailing}
use Rattle.films.specs.Sizes.{sizes}

-- ---- the numbers in a file

-- 16 bits at an offset, "least significant byte first"
abbrev pub half : List ℕ → ℕ → ℕ
half s at = get_or s at 0 + 256 * get_or s (at + 1) 0

-- 32 bits at an offset
abbrev pub word : List ℕ → ℕ → ℕ
word s at = get_or s at 0 + 256 * get_or s (at + 1) 0 + 65536 * get_or s (at + 2) 0 + 16777216 * get_or s (at + 3) 0

-- "a 16-bit count F"
abbrev pub films_in : List ℕ → ℕ
films_in s = half s 0

-- "F entries of a 16-bit film number and a 16-bit round count n": those of entry i
abbrev pub entry_number : List ℕ → ℕ → ℕ
entry_number s i = half s (2 + 4 * i)

abbrev pub entry_rounds : List ℕ → ℕ → ℕ
entry_rounds s i = half s (4 + 4 * i)

-- the sum of the n of the first i entries
abbrev pub rounds_before : List ℕ → ℕ → ℕ
rounds_before s zero = 0
rounds_before s (suc i) = rounds_before s i + entry_rounds s i

-- "a 32-bit count S", which follows the entries
abbrev pub count_at : List ℕ → ℕ
count_at s = 2 + 4 * films_in s

abbrev pub sizes_in : List ℕ → ℕ
sizes_in s = word s (count_at s)

-- "then S sizes of 32 bits"
abbrev pub sizes_at : List ℕ → ℕ
sizes_at s = 6 + 4 * films_in s

-- ---- the questions

-- "Are 2 bytes there? 1. Is F 1 to 64? 2. Are the entries there? 1."
unfoldable pub head_questions : List ℕ → List Question
head_questions s =
    (leb 2 (length s), truncated)
    ∷ (leb 1 (films_in s) && leb (films_in s) max_films, film_count)
    ∷ (leb (count_at s) (length s), truncated)
    ∷ []

-- "does its number exceed the one before?" The first entry has none before it.
unfoldable pub exceeds : List ℕ → ℕ → Bool
exceeds s zero = true
exceeds s (suc i) = ltb (entry_number s i) (entry_number s (suc i))

-- "Is n 1 to 4,096?"
unfoldable pub rounds_in_range : ℕ → Bool
rounds_in_range n = leb 1 n && leb n max_rounds

abbrev pub few_rounds : List ℕ → ℕ → Bool
few_rounds s i = rounds_in_range (entry_rounds s i)

-- "For each entry in order: does its number exceed the one before? 3. Is n 1 to 4,096? 4.", of k entries from entry i on
abbrev pub entry_questions : List ℕ → ℕ → ℕ → List Question
entry_questions s i zero = []
entry_questions s i (suc k) = (exceeds s i, film_order) ∷ (few_rounds s i, round_count) ∷ entry_questions s (suc i) k

-- "Is every size at most 16,777,215?", of n sizes from an offset on
abbrev pub small_sizes : List ℕ → ℕ → ℕ → Bool
small_sizes s at n = all (λ x. leb x max_size) (sizes s at n)

-- "Then: is the second count there? 1. Is it the sum of the n? 5. Are the sizes there? 1. Is every size at most
-- 16,777,215? 6. Does the file end? 7."
unfoldable pub size_questions : List ℕ → List Question
size_questions s =
    (leb (sizes_at s) (length s), truncated)
    ∷ (eqb (sizes_in s) (rounds_before s (films_in s)), size_count)
    ∷ (leb (sizes_at s + 4 * sizes_in s) (length s), truncated)
    ∷ (small_sizes s (sizes_at s) (sizes_in s), size_bound)
    ∷ (eqb (length s) (sizes_at s + 4 * sizes_in s), trailing)
    ∷ []

unfoldable pub file_questions : List ℕ → List Question
file_questions s = head_questions s ++ (entry_questions s 0 (films_in s) ++ size_questions s)

-- "The first "no" gives the number, and no other does."; 0 is accepted
unfoldable pub verdict : List ℕ → ℕ
verdict s = refusal (file_questions s)

-- "Every call but opening is lent the film file and puts its questions first.": they as one question
abbrev pub file : List ℕ → Question
file s = (eqb (verdict s) 0, verdict s)
