-- Playing a round. Document 01, 'A day at the desk': "Playing a round writes one report line per open film in list order (name,
-- read, send, held) and gives the films open and the number of cabs served, which is the count of cab bits of the films
-- showing. Then `now` rises by one." 'Questions at the counter': "Play: 14, 15, 16. Is `now` below T? 23. Does the report take
-- every open film? 11. Report places after the last line are untouched."
use Rattle.std.specs.Prelude.{◌≡◌, List, [], ℕ, length, take}
use Rattle.model.specs.Day.{Setting}
use Rattle.model.specs.Report.{lines_of, written}
use Rattle.model.specs.Calls.{Outcome, play_call}
use Rattle.model.specs.Code.{state_of, day_of}
use Rattle.model.specs.declared.Booking.{Booking}
use Rattle.model.specs.declared.Desk.{Desk}
use Rattle.model.specs.declared.Line.{Line}
use Rattle.model.specs.declared.Answer.{Answer}
use Rattle.model.specs.declared.Answer.TheVariants.{Refused, Opened, Booked, Dropped, Played}
use Rattle.questions.specs.Given.{setting_at}

-- how many lines an answer says: one for each film open, none with a refusal
abbrev pub lines_in : Answer → ℕ
lines_in (Played films cabs) = films
lines_in (Refused k) = 0
lines_in Opened = 0
lines_in (Booked s) = 0
lines_in Dropped = 0

-- the lines that it says, of an array that has them in front
abbrev pub told_lines : Answer → List Line → List Line
told_lines a lines = take (lines_in a) lines

-- and which: those of a played round, none with a refusal
abbrev pub lines_for : Setting → ℕ → List Booking → Answer → List Line
lines_for S now bs (Played films cabs) = lines_of S now bs
lines_for S now bs (Refused k) = []
lines_for S now bs Opened = []
lines_for S now bs (Booked s) = []
lines_for S now bs Dropped = []

-- the model's call on what the code is given, with any sheet and report
abbrev pub played : List ℕ → Desk → List ℕ → List ℕ → List ℕ → List Line → Outcome
played f desk opens reserves helds report =
    play_call (setting_at f desk.day) (state_of desk.day desk.rows desk.places opens reserves helds) report

-- with any sheet, and any report of `room` places: the answer a is the model's; the report afterwards has the lines that are
-- given first, as many as the answer says, and its other places as they were; the desk afterwards is the model's, and the
-- sheet is as it was
pub record Plays (f : List ℕ) (before : Desk) (room : ℕ) (a : Answer) (given : List Line) (after : Desk) : Type 0 where
  pub answer : (opens reserves helds : List ℕ) (report : List Line) → length report ≡ room
      → (played f before opens reserves helds report).answer ≡ a
  pub report : (opens reserves helds : List ℕ) (report : List Line) → length report ≡ room
      → (played f before opens reserves helds report).report ≡ written given report
  pub day : (opens reserves helds : List ℕ) (report : List Line) → length report ≡ room
      → day_of (setting_at f before.day) (played f before opens reserves helds report).state ≡ after.day
  pub state : (opens reserves helds : List ℕ) (report : List Line) → length report ≡ room
      → (played f before opens reserves helds report).state ≡ state_of after.day before.rows before.places opens reserves helds
  pub lines : given ≡ lines_for (setting_at f before.day) before.day.now (take before.day.count before.rows) a
  pub count : length given ≡ lines_in a
  pub rows : after.rows ≡ before.rows
  pub places : after.places ≡ before.places
