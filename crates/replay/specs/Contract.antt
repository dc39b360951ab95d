-- Replay: a day is opened and the journal's entries are done in order, as far as the log has room. Demand 3 of the entries done,
-- as a promise of running code: every answer and report line, and the records, sheet and round at the end, are those of the
-- plain day.
use Rattle.std.specs.Prelude.{◌≡◌, Option, List, [], ◌++◌, ℕ, zero, suc, length, take, drop}
use Rattle.std.specs.Prelude as std
use Rattle.laws.specs.Questions.{refusal}
use Rattle.model.specs.Day.{Setting, State}
use Rattle.model.specs.Fit.{Fits}
use Rattle.model.specs.Calls.{open_questions}
use Rattle.model.specs.Code.{state_of, day_of}
use Rattle.model.specs.PlainDay.{at_first, plain_after, ever_taken}
use Rattle.model.specs.Expected.{expected}
use Rattle.model.specs.declared.Booking.{Booking}
use Rattle.model.specs.declared.Day.{Day}
use Rattle.model.specs.declared.Desk.{Desk}
use Rattle.model.specs.declared.Sheet.{Sheet}
use Rattle.replay.specs.Journal.{entries}
use Rattle.replay.specs.PlainRun.{calls_of, plain_log, entries_done}
use Rattle.replay.specs.declared.Replayed.{Replayed}
use Rattle.replay.specs.declared.journal.Entry.{Entry}

-- the day before an opening
abbrev pub no_day : Day
no_day = record { rounds = 0; disk = 0; memory = 0; now = 0; count = 0 }

-- what is lent to the opening
abbrev pub lent_to : List Booking → ℕ → List ℕ → List ℕ → List ℕ → State
lent_to rows places opens reserves helds = state_of no_day rows places opens reserves helds

-- what a replay is to give, and to leave of the log and the sheet
pub record Result : Type 0 where
  pub refusal : ℕ
  pub entries : ℕ
  pub words : List ℕ
  pub day : Day
  pub state : State

-- the opening's number, 0 if it is accepted
abbrev pub refusal_in : std.Result Replayed ℕ → ℕ
refusal_in (std.Ok _) = 0
refusal_in (std.Err number) = number

-- how many entries were done, none after a refused opening
abbrev pub entries_in : std.Result Replayed ℕ → ℕ
entries_in (std.Ok done) = done.entries
entries_in (std.Err _) = 0

-- how many words of the log were written
abbrev pub words_in : std.Result Replayed ℕ → ℕ
words_in (std.Ok done) = done.words
words_in (std.Err _) = 0

-- the day after them: none after a refused opening
abbrev pub day_in : std.Result Replayed ℕ → Desk → Day
day_in (std.Ok _) desk = desk.day
day_in (std.Err _) desk = no_day

-- the desk with that day: a refused opening leaves the desk's own as it was
abbrev pub desk_in : std.Result Replayed ℕ → Desk → Desk
desk_in r desk = record { day = day_in r desk; rows = desk.rows; places = desk.places }

-- the answer, the day, every record place, every place of the log and of the sheet
pub record Replays (w : Result) (old : List ℕ) (r : std.Result Replayed ℕ) (desk' : Desk) (sheet' : Sheet) (log' : List ℕ) : Type 0 where
  pub refusal : refusal_in r ≡ w.refusal
  pub entries : entries_in r ≡ w.entries
  pub words : words_in r ≡ length w.words
  pub log : log' ≡ w.words ++ drop (length w.words) old
  pub day : desk'.day ≡ w.day
  pub rows : desk'.rows ≡ w.state.records
  pub opens : sheet'.opens.now ≡ w.state.opens
  pub reserves : sheet'.reserves.now ≡ w.state.reserves
  pub helds : sheet'.helds.now ≡ w.state.helds

module _ (S : Setting) (lent : State) (fits : (bs : List Booking) → Dec (Fits S bs)) where
  -- the entries es are done: the plain day after their calls, and everything lent as it expects
  abbrev pub result_after : List (Option Entry) → Result
  result_after es =
      let s = plain_after S lent.places fits at_first (calls_of es) in
      let taken = ever_taken S lent.places fits at_first (calls_of es) in
      let d = expected S lent s taken in
      record {
        refusal = 0;
        entries = length es;
        words = plain_log S lent.places fits at_first es;
        day = day_of S d;
        state = d;
      }

  -- an opening that is refused changes nothing
  abbrev pub result_by : ℕ → List ℕ → ℕ → Result
  result_by zero journal room = result_after (take (entries_done S lent.places fits at_first room (entries journal)) (entries journal))
  result_by (suc k) journal room = record { refusal = suc k; entries = 0; words = []; day = no_day; state = lent }

  -- by the number of the opening's first question that says no
  abbrev pub result_of : List ℕ → ℕ → Result
  result_of journal room = result_by (refusal (open_questions S lent)) journal room
