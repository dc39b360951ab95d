-- A session by the plain day: what the program prints, from the plain day (document 01, 'The plain day') and 'The program' alone.
use Rattle.std.specs.Prelude.{false, List, [], ◌∷◌, ◌++◌, ℕ, zero, suc, leb, Option, Some, None}
use Rattle.limits.specs.Bounds.{hall_rounds, hall_places}
use Rattle.limits.specs.Refusals.{no_room, day_rounds, day_limits, command_form}
use Rattle.laws.specs.Questions.{refusal}
use Rattle.model.specs.Day.{Setting}
use Rattle.model.specs.Fit.{Fits}
use Rattle.model.specs.Questions.{file_question}
use Rattle.model.specs.Calls.{rounds_in_range, limits_in_range}
use Rattle.model.specs.PlainDay.{PlainDay, at_first, Arguments, booking, dropping, playing, plain_call}
use Rattle.model.specs.declared.Booking.{Booking}
use Rattle.model.specs.declared.Day.{Day}
use Rattle.model.specs.declared.Line.{Line}
use Rattle.model.specs.declared.Answer.{Answer}
use Rattle.model.specs.declared.Answer.TheVariants.{Refused, Opened}
use Rattle.questions.specs.Given.{setting_at}
use Rattle.opening.specs.Contract.{asked}
use Rattle.commands.specs.declared.Command.{Command}
use Rattle.commands.specs.declared.Command.TheVariants.{Open, Book, Drop, Play}
use Rattle.text.specs.Text.{answer_text, report_text}
use Rattle.console.specs.Session.{start_desk, name_in}

-- where a session stands: before the first accepted OPEN; or on the plain day of the last one, with its T, D and M
pub data PlainSession : Type 0 where
  unopened : PlainSession
  on_day : Day → PlainDay → PlainSession

-- what a command answers, the report lines that it writes, and where the session stands then
pub record PlainTold : Type 0 where
  pub answer : Answer
  pub lines : List Line
  pub after : PlainSession

-- the current round
abbrev pub round_of : PlainSession → ℕ
round_of unopened = 0
round_of (on_day day p) = p.round

-- "A refused call answers its number and changes nothing."
abbrev pub refused_in : PlainSession → ℕ → PlainTold
refused_in p k = record { answer = Refused k; lines = []; after = p }

-- "Is T 1 to 86,400? 14. Is D at most 4,294,967,295 and M at most 1,099,511,627,776? 15. Has every sheet list T places? 11": "Its
-- sheet has 1,024 rounds"
unfoldable pub open_number : Setting → ℕ
open_number S = refusal ((rounds_in_range S, day_rounds) ∷ (limits_in_range S, day_limits) ∷ (leb S.rounds hall_rounds, no_room) ∷ [])

-- OPEN: the plain day of these T, D and M begins
abbrev pub plain_open : PlainSession → Day → ℕ → PlainTold
plain_open p day zero = record { answer = Opened; lines = []; after = on_day day at_first }
plain_open p day (suc k) = refused_in p (suc k)

-- `fits` is any decision which lists of bookings fit in a setting
module _ (file : List ℕ) (fits : (S : Setting) (bs : List Booking) → Dec (Fits S bs)) where
  -- "Before OPEN the day has T = 0": the file's questions, and then 14
  abbrev pub number_before : ℕ
  number_before = refusal (file_question (setting_at file start_desk.day) ∷ (false, day_rounds) ∷ [])

  -- a call: "its list 64 places"
  abbrev pub plain_asked : PlainSession → Arguments → PlainTold
  plain_asked unopened c = refused_in unopened number_before
  plain_asked (on_day day p) c =
      let S = setting_at file day in
      let o = plain_call S hall_places (fits S) p c in
      record { answer = o.answer; lines = o.lines; after = on_day day o.after }

  abbrev pub plain_command : PlainSession → Option Command → PlainTold
  plain_command p (Some (Open rounds disk memory)) =
      plain_open p (asked rounds disk memory) (open_number (setting_at file (asked rounds disk memory)))
  plain_command p (Some (Book q)) = plain_asked p (booking q)
  plain_command p (Some (Drop name)) = plain_asked p (dropping name)
  plain_command p (Some Play) = plain_asked p (playing hall_places)
  plain_command p None = refused_in p command_form

  -- its text
  abbrev pub plain_text : PlainSession → Option Command → List ℕ
  plain_text p c = answer_text (name_in c) (round_of p) (plain_command p c).answer ++ report_text (plain_command p c).lines

  -- the text of a list of commands
  abbrev pub plain_output : PlainSession → List (Option Command) → List ℕ
  plain_output p [] = []
  plain_output p (c ∷ cs) = plain_text p c ++ plain_output (plain_command p c).after cs

  -- and where it leaves the session
  abbrev pub plain_end : PlainSession → List (Option Command) → PlainSession
  plain_end p [] = p
  plain_end p (c ∷ cs) = plain_end (plain_command p c).after cs
