-- What a call for a schedule and a call for a least reserve answer. Document 01, 'Questions at the counter'.
use Rattle.std.specs.Prelude.{◌≡◌, List, [], ◌∷◌, ◌++◌, ℕ, zero, suc, ◌+◌, Result, Ok, Err, length, drop, leb}
use Rattle.laws.specs.Questions.{Question, refusal}
use Rattle.laws.specs.Sums.{largest}
use Rattle.limits.specs.Bounds.{max_prefetch, max_reserve}
use Rattle.limits.specs.declared.refusals.Refusal.{Refusal}
use Rattle.limits.specs.Refusals.{no_film, prefetch_bound, reserve_bound, no_room, no_schedule, cap_bound}
use Rattle.limits.specs.Numbered.{numbered}
use Rattle.films.specs.Layout.{in_file, sizes_of}
use Rattle.films.specs.Decode.{films_of}
use Rattle.films.specs.Questions.{file}
use Rattle.retrieval.specs.Schedule.{sends}
use Rattle.retrieval.specs.JustInTime.{just_in_time, exists_by}
use Rattle.retrieval.specs.LeastReserve.{least_reserve}

-- ---- Answers: a value, or the number of a refusal

-- the answer by the number of the first "no": that number, or the value
abbrev pub answer_by : ℕ → ℕ → Result ℕ ℕ
answer_by zero value = Ok value
answer_by (suc k) value = Err (suc k)

-- the paper's values of an answer
abbrev pub answer_values : Result ℕ ℕ → List ℕ
answer_values (Ok value) = value ∷ []
answer_values (Err k) = []

-- ---- Schedule

-- of a film's sizes: "Is p at most 256? 9. Is b at most 16,777,215? 10. Does the output take p+n totals? 11. Does a schedule
-- exist? 12."
unfoldable pub plan_questions : List ℕ → ℕ → ℕ → ℕ → List Question
plan_questions sizes p b places =
    (leb p max_prefetch, prefetch_bound)
    ∷ (leb b max_reserve, reserve_bound)
    ∷ (leb (p + length sizes) places, no_room)
    ∷ (exists_by b (sends p sizes), no_schedule)
    ∷ []

-- "Every call but opening is lent the film file and puts its questions first." "Schedule: is the film in the file? 8.", and
-- the others
unfoldable pub schedule_questions : List ℕ → ℕ → ℕ → ℕ → ℕ → List Question
schedule_questions s film p b places =
    file s ∷ (in_file (films_of s) film, no_film) ∷ plan_questions (sizes_of (films_of s) film) p b places

-- the lent list afterwards: the totals, and "places from p+n on are untouched"; "a refusal .. changes nothing lent"
abbrev pub written_by : ℕ → List ℕ → List ℕ → List ℕ
written_by zero totals out = totals ++ drop (length totals) out
written_by (suc k) totals out = out

-- the totals asked for, of a film's sizes
abbrev pub plan_totals : List ℕ → ℕ → ℕ → List ℕ
plan_totals sizes p b = just_in_time b 0 (sends p sizes)

-- an answer, and the list after it, of a film's sizes
pub record Planned (sizes : List ℕ) (p b : ℕ) (out : List ℕ) (r : Result ℕ Refusal) (after : List ℕ) : Type 0 where
  pub answer : numbered r ≡ answer_by (refusal (plan_questions sizes p b (length out))) (length (plan_totals sizes p b))
  pub places : after ≡ written_by (refusal (plan_questions sizes p b (length out))) (plan_totals sizes p b) out

-- the answer of a call, which is how many totals are written, and the list after it
unfoldable pub scheduled : List ℕ → ℕ → ℕ → ℕ → ℕ → Result ℕ ℕ
scheduled s film p b places =
    answer_by (refusal (schedule_questions s film p b places)) (length (plan_totals (sizes_of (films_of s) film) p b))

unfoldable pub schedule_out : List ℕ → ℕ → ℕ → ℕ → List ℕ → List ℕ
schedule_out s film p b out =
    written_by (refusal (schedule_questions s film p b (length out))) (plan_totals (sizes_of (films_of s) film) p b) out

-- ---- Least reserve

-- of a film's sizes: "Is p at most 256? 9. .. Is the cap at least the film's largest size? 13."
unfoldable pub cap_questions : List ℕ → ℕ → ℕ → List Question
cap_questions sizes p cap = (leb p max_prefetch, prefetch_bound) ∷ (leb (largest sizes) cap, cap_bound) ∷ []

-- "Least reserve: 8 and 9 as above.", and the other
unfoldable pub reserve_questions : List ℕ → ℕ → ℕ → ℕ → List Question
reserve_questions s film p cap = file s ∷ (in_file (films_of s) film, no_film) ∷ cap_questions (sizes_of (films_of s) film) p cap

-- the answer of a call, which is the least reserve
unfoldable pub reserved : List ℕ → ℕ → ℕ → ℕ → Result ℕ ℕ
reserved s film p cap =
    answer_by (refusal (reserve_questions s film p cap)) (least_reserve (sends p (sizes_of (films_of s) film)) cap)
