-- What the plain day says of everything lent. Document 01, 'The plain day', last paragraph.
use Rattle.std.specs.Prelude.{List, [], ◌∷◌, ◌++◌, map, ℕ, ◌-◌, length, drop, replicate}
use Rattle.model.specs.Day.{Setting, State, schedule_of, opened, reserved}
use Rattle.model.specs.Fit.{held_by}
use Rattle.model.specs.Report.{written}
use Rattle.model.specs.Calls.{Call, booking, dropping, playing, no_booking, worked_out}
use Rattle.model.specs.PlainDay as P
use Rattle.model.specs.PlainDay.{PlainDay, Arguments}
use Rattle.model.specs.declared.Booking.{Booking}
use Rattle.model.specs.declared.Line.{Line}

-- what the plain day is fed of a call: of a report its length
abbrev pub arguments_of : Call → Arguments
arguments_of (booking q) = P.booking q
arguments_of (dropping name) = P.dropping name
arguments_of (playing report) = P.playing (length report)

-- the report that a call is lent
abbrev pub lent_report : Call → List Line
lent_report (booking q) = []
lent_report (dropping name) = []
lent_report (playing report) = report

-- each call's lines written to its report
abbrev pub all_written : List (List Line) → List Call → List (List Line)
all_written [] cs = []
all_written (ls ∷ lss) [] = []
all_written (ls ∷ lss) (c ∷ cs) = written ls (lent_report c) ∷ all_written lss cs

-- "Other record places are zero if ever taken, else as lent."
abbrev pub other_places : ℕ → ℕ → List Booking → List Booking
other_places count taken lent = replicate (taken - count) no_booking ++ drop taken lent

-- "At the end the first record places hold the standing bookings in order, the count is theirs and `now` is r. The sheet
-- gives for each of the T rounds how many of them are open, and the sums of their b and of the bytes their schedules hold."
abbrev pub expected : Setting → State → PlainDay → ℕ → State
expected S lent s taken =
    let bs = s.standing in
    record {
      now = s.round;
      count = length bs;
      places = lent.places;
      records = bs ++ other_places (length bs) taken lent.records;
      opens = worked_out S.rounds (λ t. opened S t bs) lent.opens;
      reserves = worked_out S.rounds (λ t. reserved S t bs) lent.reserves;
      helds = worked_out S.rounds (λ t. held_by S t bs (map (schedule_of S) bs)) lent.helds;
    }
