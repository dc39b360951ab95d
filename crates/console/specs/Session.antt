-- A session of the program, command by command. Document 01, 'The program'.
use Rattle.std.specs.Prelude.{List, [], ◌∷◌, ◌++◌, ℕ, take, replicate, Option, Some, None}
use Rattle.limits.specs.Bounds.{max_bookings, hall_rounds, hall_places}
use Rattle.limits.specs.Refusals.{command_form}
use Rattle.model.specs.Day.{State}
use Rattle.model.specs.Calls.{Outcome, no_booking, refused, open_call, book_call, drop_call, play_call}
use Rattle.model.specs.Code.{state_of, day_of, day_opened}
use Rattle.model.specs.declared.Booking.{Booking}
use Rattle.model.specs.declared.Day.{Day}
use Rattle.model.specs.declared.Desk.{Desk}
use Rattle.model.specs.declared.Line.{Line}
use Rattle.questions.specs.Given.{setting_at}
use Rattle.opening.specs.Contract.{asked}
use Rattle.playing.specs.Lines.{no_line}
use Rattle.playing.specs.Contract.{lines_in}
use Rattle.commands.specs.declared.Command.{Command}
use Rattle.commands.specs.declared.Command.TheVariants.{Open, Book, Drop, Play}
use Rattle.text.specs.Text.{answer_text, report_text}

-- what stands between two commands: the day, the places of the list of bookings, and the day sheet
pub record SessionState : Type 0 where
  pub day : Day
  pub rows : List Booking
  pub opens : List ℕ
  pub reserves : List ℕ
  pub helds : List ℕ

-- "Before OPEN the day has T = 0." "Its .. list [has] 64 places."
abbrev pub start_desk : Desk
start_desk =
    record {
      day = record { rounds = 0; disk = 0; memory = 0; now = 0; count = 0 };
      rows = replicate max_bookings no_booking;
      places = hall_places;
    }

-- "Its sheet has 1,024 rounds and its list 64 places."
abbrev pub at_start : SessionState
at_start =
    record {
      day = start_desk.day;
      rows = start_desk.rows;
      opens = replicate hall_rounds 0;
      reserves = replicate hall_rounds 0;
      helds = replicate hall_rounds 0;
    }

-- as the calls are lent it
abbrev pub lent_by : SessionState → State
lent_by s = state_of s.day s.rows hall_places s.opens s.reserves s.helds

-- and as a call leaves it
abbrev pub left_in : Day → State → SessionState
left_in day d = record { day = day; rows = d.records; opens = d.opens; reserves = d.reserves; helds = d.helds }

-- a round's report has as many places as the list of bookings
abbrev pub blank_report : List Line
blank_report = replicate hall_places no_line

-- "Commands .. OPEN T D M; BOOK name film p b cabs first last; DROP name; PLAY": each is its call. "Is the line one of these ..?
-- 24."
unfoldable pub outcome_of : List ℕ → SessionState → Option Command → Outcome
outcome_of file s (Some (Open rounds disk memory)) = open_call (setting_at file (asked rounds disk memory)) (lent_by s)
outcome_of file s (Some (Book q)) = book_call (setting_at file s.day) (lent_by s) q
outcome_of file s (Some (Drop name)) = drop_call (setting_at file s.day) (lent_by s) name
outcome_of file s (Some Play) = play_call (setting_at file s.day) (lent_by s) blank_report
outcome_of file s None = refused (setting_at file s.day) (lent_by s) [] command_form

-- the day after a command; an accepted OPEN gives it T, D and M
unfoldable pub day_after : List ℕ → SessionState → Option Command → Day
day_after file s (Some (Open rounds disk memory)) = day_opened (setting_at file (asked rounds disk memory)) (lent_by s) s.day
day_after file s (Some (Book q)) = day_of (setting_at file s.day) (outcome_of file s (Some (Book q))).state
day_after file s (Some (Drop name)) = day_of (setting_at file s.day) (outcome_of file s (Some (Drop name))).state
day_after file s (Some Play) = day_of (setting_at file s.day) (outcome_of file s (Some Play)).state
day_after file s None = s.day

abbrev pub state_after : List ℕ → SessionState → Option Command → SessionState
state_after file s c = left_in (day_after file s c) (outcome_of file s c).state

-- "BOOKED name start", "DROPPED and the name": the name in a command, 0 where there is none
abbrev pub name_in : Option Command → ℕ
name_in (Some (Open rounds disk memory)) = 0
name_in (Some (Book q)) = q.name
name_in (Some (Drop name)) = name
name_in (Some Play) = 0
name_in None = 0

-- the lines of a played round's report, as many as its answer says; none after any other answer
abbrev pub lines_told : Outcome → List Line
lines_told o = take (lines_in o.answer) o.report

-- the text that answers a command: the answer's line, and "ROUND round open cabs; then name read send held". The round is the
-- one that was played, the current one before the command.
abbrev pub text_of : List ℕ → SessionState → Option Command → List ℕ
text_of file s c =
    answer_text (name_in c) s.day.now (outcome_of file s c).answer ++ report_text (lines_told (outcome_of file s c))

-- ---- A list of commands, each on what the last one left

abbrev pub session_text : List ℕ → SessionState → List (Option Command) → List ℕ
session_text file s [] = []
session_text file s (c ∷ cs) = text_of file s c ++ session_text file (state_after file s c) cs

abbrev pub session_end : List ℕ → SessionState → List (Option Command) → SessionState
session_end file s [] = s
session_end file s (c ∷ cs) = session_end file (state_after file s c) cs
