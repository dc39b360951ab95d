-- The claim of the whole list (demand 3): "For every list of calls (bookings, drops and played rounds, refused ones too) on
-- a day opened empty, with one film file and fixed limits, where each call takes the day as the last one left it and nobody
-- else writes it, every answer and report line, and the records, sheet and round at the end, are those of the plain day in
-- document 01."
use Rattle.std.specs.Prelude.{◌≡◌, true, List, map}
use Rattle.model.specs.Day.{Setting, State}
use Rattle.model.specs.Fit.{Fits}
use Rattle.model.specs.Calls.{day_in_range, limits_in_range, sheet_long, sound, open_call, Call, answers, reports, after_all}
use Rattle.model.specs.PlainDay.{at_first, plain_answers, plain_reports, plain_after, ever_taken}
use Rattle.model.specs.Expected.{arguments_of, all_written, expected}
use Rattle.model.specs.declared.Booking.{Booking}

-- 14, 15, 11 and 16: "those in between never meet a "no" here"
pub record InBetween (S : Setting) (d : State) : Type 0 where
  pub day : day_in_range S d ≡ true
  pub limits : limits_in_range S ≡ true
  pub sheet : sheet_long S d ≡ true
  pub list : sound S d ≡ true

-- cs are the calls, `lent` is everything lent to the opening, and `fits` is any decision which lists of bookings fit
-- (FitLaws.antt, `dec_fits`, is one)
pub record SameDay (S : Setting) (lent : State) (fits : (bs : List Booking) → Dec (Fits S bs)) (cs : List Call) : Type 0 where
  -- every answer
  pub answered : answers S (open_call S lent).state cs ≡ plain_answers S lent.places fits at_first (map arguments_of cs)
  -- every place of every report
  pub reported : reports S (open_call S lent).state cs ≡ all_written (plain_reports S lent.places fits at_first (map arguments_of cs)) cs
  -- every record place, the count, the round, and every place of the three sheet lists
  pub ended : after_all S (open_call S lent).state cs
      ≡ expected S lent (plain_after S lent.places fits at_first (map arguments_of cs)) (ever_taken S lent.places fits at_first (map arguments_of cs))
  -- what the next call finds
  pub between : InBetween S (after_all S (open_call S lent).state cs)
