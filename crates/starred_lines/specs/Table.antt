-- The starred lines of document 01, 'Figures for film 1', in the paper's order, by computation over the definitions: what the calls for a
-- schedule and for a least reserve answer and write, and what the desk answers.
use Rattle.std.specs.Prelude.{◌≡◌, refl, List, [], ◌∷◌, ℕ, ◌+◌, length, take, replicate}
use Rattle.std.specs.Int.Count.{ones, ones_in}
use Rattle.films.specs.Layout.{sizes_of}
use Rattle.films.specs.Questions.{verdict, file_questions, head_questions, exceeds, rounds_in_range, size_questions}
use Rattle.films.specs.Decode.{films_of}
use Rattle.loss.specs.Loss.{table, loss_at}
use Rattle.retrieval.specs.Schedule.{sends, helds, peak}
use Rattle.retrieval.specs.LeastReserve.{least_reserve}
use Rattle.limits.specs.Numbered.{answer_number}
use Rattle.planning.specs.Answers.{plan_questions, schedule_questions, scheduled, schedule_out, cap_questions, reserve_questions, reserved, answer_values}
use Rattle.model.specs.Day.{Setting, open_at, shows_at, exists}
use Rattle.model.specs.Questions.{record_questions, window_open, book_own, drop_own, play_own}
use Rattle.model.specs.Soundness.{passes, round_kept, limits_kept, sound_list, fit_test}
use Rattle.model.specs.Calls as calls
use Rattle.model.specs.Calls.{day_in_range, limits_in_range, sheet_long, sound, open_questions, open_call, book_questions, start_of, book_call, answers}
use Rattle.model.specs.Figures.{lent, book}
use Rattle.model.specs.declared.Answer.{Answer}
use Rattle.model.specs.declared.Answer.TheVariants.{Booked}

-- "Film 1 has sizes 8, 8, 8, 2, 6, 4 .. It is the only film.": its file has one entry, film 1 with 6 rounds, and 6 sizes
abbrev pub file1 : List ℕ
file1 =
    1 ∷ 0
    ∷ 1 ∷ 0 ∷ 6 ∷ 0
    ∷ 6 ∷ 0 ∷ 0 ∷ 0
    ∷ 8 ∷ 0 ∷ 0 ∷ 0
    ∷ 8 ∷ 0 ∷ 0 ∷ 0
    ∷ 8 ∷ 0 ∷ 0 ∷ 0
    ∷ 2 ∷ 0 ∷ 0 ∷ 0
    ∷ 6 ∷ 0 ∷ 0 ∷ 0
    ∷ 4 ∷ 0 ∷ 0 ∷ 0
    ∷ []

abbrev pub sizes1 : List ℕ
sizes1 = sizes_of (films_of file1) 1

-- ---- a schedule of film 1, with p pre-fetch rounds and a reserve of b

-- a list of 8 places, each 99, is lent to the call
abbrev pub lent8 : List ℕ
lent8 = replicate 8 99

-- the number that the call answers, 0 if it is no refusal
abbrev pub answered : ℕ → ℕ → ℕ
answered p b = answer_number (scheduled file1 1 p b (length lent8))

-- the lent list afterwards, and its totals
abbrev pub written : ℕ → ℕ → List ℕ
written p b = schedule_out file1 1 p b lent8

abbrev pub totals : ℕ → ℕ → List ℕ
totals p b = take (p + length sizes1) (written p b)

-- what these totals hold, and their peak
abbrev pub held : ℕ → ℕ → List ℕ
held p b = helds 0 (sends p sizes1) (totals p b)

abbrev pub peak_of : ℕ → ℕ → ℕ
peak_of p b = peak (sends p sizes1) (totals p b)

-- ---- booking 2 of 'The program' on a day of 20 rounds

abbrev pub day : ℕ → ℕ → Setting
day disk memory =
    record { verdict = verdict file1; films = films_of file1; loss = loss_at; rounds = 20; disk = disk; memory = memory }

-- "BOOK 1 1 1 6 1 0 0" and "BOOK 2 1 1 6 cabs 0 10" after the opening
abbrev pub booked : ℕ → ℕ → ℕ → List Answer
booked disk memory cabs = answers (day disk memory) (open_call (day disk memory) lent).state (book 1 1 0 0 ∷ book 2 cabs 0 10 ∷ [])

-- ---- the table

pub record StarredLines : Type 0 where
  -- "p 1, b 6: totals 6, 12, 18, 24, 26, 32, 36; held 6, 12, 10, 8, 2, 6, 4."
  pub p1-b6 : answered 1 6 ≡ 0
  pub p1-b6-totals : written 1 6 ≡ 6 ∷ 12 ∷ 18 ∷ 24 ∷ 26 ∷ 32 ∷ 36 ∷ 99 ∷ []
  pub p1-b6-held : held 1 6 ≡ 6 ∷ 12 ∷ 10 ∷ 8 ∷ 2 ∷ 6 ∷ 4 ∷ []
  -- "p 0, b 7: refused 12."
  pub p0-b7 : answered 0 7 ≡ 12
  pub p0-b7-list : written 0 7 ≡ lent8
  -- "p 0, b 8: held 8, 8, 8, 2, 6, 4."
  pub p0-b8 : answered 0 8 ≡ 0
  pub p0-b8-held : held 0 8 ≡ 8 ∷ 8 ∷ 8 ∷ 2 ∷ 6 ∷ 4 ∷ []
  -- "p 1, b 5: refused 12."
  pub p1-b5 : answered 1 5 ≡ 12
  -- "p 2, b 5: peak 14."
  pub p2-b5 : answered 2 5 ≡ 0
  pub p2-b5-peak : peak_of 2 5 ≡ 14
  -- "p 1, b 7: peak 10."
  pub p1-b7 : answered 1 7 ≡ 0
  pub p1-b7-peak : peak_of 1 7 ≡ 10
  -- "Least reserve, p 1: cap 12 gives 6, cap 11 gives 7, cap 8 gives 8, cap 7 is refused 13."
  pub cap12 : answer_values (reserved file1 1 1 12) ≡ 6 ∷ []
  pub cap11 : answer_values (reserved file1 1 1 11) ≡ 7 ∷ []
  pub cap8 : answer_values (reserved file1 1 1 8) ≡ 8 ∷ []
  pub cap7 : answer_number (reserved file1 1 1 7) ≡ 13
  -- "Booking 2 above with M 15: start 6. With M 18 and D 141,432: start 7."
  pub less-memory : booked 141433 15 2 ≡ Booked 0 ∷ Booked 6 ∷ []
  pub less-disk : booked 141432 18 2 ≡ Booked 0 ∷ Booked 7 ∷ []
  -- "Booking 2 above on cab 1: start 6."
  pub same-cab : booked 141433 18 1 ≡ Booked 0 ∷ Booked 6 ∷ []

pub starred-lines : StarredLines
unfolding verdict file_questions head_questions exceeds rounds_in_range size_questions films_of table least_reserve plan_questions schedule_questions scheduled schedule_out cap_questions reserve_questions reserved open_at shows_at exists record_questions window_open book_own drop_own play_own passes round_kept limits_kept sound_list fit_test calls.rounds_in_range day_in_range limits_in_range sheet_long sound open_questions open_call book_questions start_of book_call ones ones_in
starred-lines =
    record {
      p1-b6 = refl;
      p1-b6-totals = refl;
      p1-b6-held = refl;
      p0-b7 = refl;
      p0-b7-list = refl;
      p0-b8 = refl;
      p0-b8-held = refl;
      p1-b5 = refl;
      p2-b5 = refl;
      p2-b5-peak = refl;
      p1-b7 = refl;
      p1-b7-peak = refl;
      cap12 = refl;
      cap11 = refl;
      cap8 = refl;
      cap7 = refl;
      less-memory = refl;
      less-disk = refl;
      same-cab = refl;
    }
