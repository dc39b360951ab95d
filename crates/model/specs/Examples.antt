-- Days of film 1 beyond document 01's figures, by computation over the definitions: the shift change, where one film ends
-- in the round in which the next begins, and a lent day whose sheet holds anything.
use Rattle.std.specs.Prelude.{◌≡◌, List, [], ◌∷◌, ◌++◌, replicate}
use Rattle.model.specs.Day.{State}
use Rattle.model.specs.Calls.{no_booking, Call, dropping, playing, call, answers, reports}
use Rattle.model.specs.Figures.{day, opened, book, line}
use Rattle.model.specs.declared.Answer.TheVariants.{Refused, Booked, Dropped, Played}

-- disk and memory for one film at a time, both bookings on cab 1, then eight rounds
abbrev pub shift_change : List Call
shift_change = book 1 1 0 0 ∷ book 2 1 0 10 ∷ replicate 8 (playing (line 7 7 7 7 ∷ []))

-- a day with one booking, at 0, and a sheet that says nothing of it
abbrev pub one_booked : State
one_booked =
    record {
      now = 0;
      count = 1;
      places = 3;
      records = record { name = 1; film = 1; start = 0; prefetch = 1; reserve = 6; cabs = 1 } ∷ no_booking ∷ no_booking ∷ [];
      opens = replicate 21 7;
      reserves = replicate 21 7;
      helds = replicate 21 7;
    }

pub record Examples : Type 0 where
  -- booking 1 is open in rounds 0 to 6, so booking 2 starts in round 7, and round 7 reads booking 2 alone
  pub shift-answers : answers (day 100006 12) (opened 100006 12) shift_change
      ≡ Booked 0 ∷ Booked 7 ∷ Played 1 0 ∷ replicate 6 (Played 1 1) ++ Played 1 0 ∷ []
  pub shift-reports : reports (day 100006 12) (opened 100006 12) shift_change
      ≡ []
      ∷ []
      ∷ (line 1 6 0 6 ∷ [])
      ∷ (line 1 6 8 12 ∷ [])
      ∷ (line 1 6 8 10 ∷ [])
      ∷ (line 1 6 8 8 ∷ [])
      ∷ (line 1 2 2 2 ∷ [])
      ∷ (line 1 6 6 6 ∷ [])
      ∷ (line 1 4 4 4 ∷ [])
      ∷ (line 2 6 0 6 ∷ [])
      ∷ []
  -- 22 leaves the sheet of the booking that stands, and the place after round 19 as it was
  pub after-22 : (call (day 141433 18) one_booked (book 3 1 0 5)).answer ≡ Refused 22
  pub opens-22 : (call (day 141433 18) one_booked (book 3 1 0 5)).state.opens ≡ replicate 7 1 ++ replicate 13 0 ++ 7 ∷ []
  pub helds-22 : (call (day 141433 18) one_booked (book 3 1 0 5)).state.helds
      ≡ 6 ∷ 12 ∷ 10 ∷ 8 ∷ 2 ∷ 6 ∷ 4 ∷ replicate 13 0 ++ 7 ∷ []
  -- a drop zeroes the place freed and the sheet
  pub dropped : answers (day 141433 18) one_booked (dropping 2 ∷ dropping 1 ∷ []) ≡ Refused 19 ∷ Dropped ∷ []
  pub freed : (call (day 141433 18) one_booked (dropping 1)).state.records ≡ replicate 3 no_booking
  pub cleared : (call (day 141433 18) one_booked (dropping 1)).state.opens ≡ replicate 20 0 ++ 7 ∷ []
