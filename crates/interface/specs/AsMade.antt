-- Demand 3 for those who make the calls themselves: "For every list of calls (bookings, drops and played rounds, refused ones too) on
-- a day opened empty, with one film file and fixed limits, where each call takes the day as the last one left it and nobody else
-- writes it, every answer and report line, and the records, sheet and round at the end, are those of the plain day in document 01. In
-- no round does a film send an unread byte, is a limit passed or is a cab given two films." The calls are playback_open, playback_book,
-- playback_drop and playback_play. `DayMade` says of them only that each meets its contract, and `AsMade` is the claim; AsMadeLaws.antt
-- proves it, `as-made`.
use Rattle.std.specs.Prelude.{◌≡◌, cond, List, [], ◌∷◌, ◌++◌, map, ℕ, ◌≤◌, length, take}
use Rattle.model.specs.Day.{Setting, State, schedule_of}
use Rattle.model.specs.Fit.{Fits, Kept}
use Rattle.model.specs.Questions.{has_name}
use Rattle.model.specs.Report.{sum_read, sum_send, EachWithin, of_name}
use Rattle.model.specs.Calls.{Call, booking, dropping, playing}
use Rattle.model.specs.Code.{state_of, day_of}
use Rattle.model.specs.PlainDay.{PlainDay, at_first, Arguments, plain_call, plain_reports, plain_after, ever_taken}
use Rattle.model.specs.Expected.{arguments_of, all_written, expected}
use Rattle.model.specs.declared.Booking.{Booking}
use Rattle.model.specs.declared.Line.{Line}
use Rattle.model.specs.declared.Day.{Day}
use Rattle.model.specs.declared.Request.{Request}
use Rattle.opening.specs.Contract.{asked}
use Rattle.questions.specs.Given.{setting_at}
use Rattle.interface.specs.Reply.{reply_of}
use Rattle.interface.specs.DeskCalls.{OpensOver, BooksOver, DropsOver, PlaysOver}
use Rattle.interface.specs.declared.reply.Reply.{Reply}

-- ---- the calls that were made

-- the day sheet's "three lists by round: films open, sum of reserves, sum of bytes held"
pub record Sheet : Type 0 where
  pub opens : List ℕ
  pub reserves : List ℕ
  pub helds : List ℕ

-- what is lent from call to call; the day has T, D, M, `now` and the number of records
pub record Lent : Type 0 where
  pub day : Day
  pub records : List Booking
  pub sheet : Sheet

-- an opening: the T, D and M asked for, its reply, and the sheet afterwards. No record is lent to it.
pub record Opening : Type 0 where
  pub rounds : ℕ
  pub disk : ℕ
  pub memory : ℕ
  pub reply : Reply
  pub sheet : Sheet

-- any other call: what it was asked, its reply, and what it may write as that is afterwards: a booking's and a drop's records and sheet,
-- and the report that was lent to a play
pub data Made : Type 0 where
  books : Request → Reply → List Booking → Sheet → Made
  drops : ℕ → Reply → List Booking → Sheet → Made
  plays : List Line → Reply → List Line → Made

abbrev pub call_in : Made → Call
call_in (books q z list s) = booking q
call_in (drops name z list s) = dropping name
call_in (plays report z report') = playing report

abbrev pub reply_in : Made → Reply
reply_in (books q z list s) = z
reply_in (drops name z list s) = z
reply_in (plays report z report') = z

abbrev pub report_in : Made → List Line
report_in (books q z list s) = []
report_in (drops name z list s) = []
report_in (plays report z report') = report'

-- "records, count, sheet and `now` as the opening or the call before returned or left them"
abbrev pub opened_by : Lent → Opening → Lent
opened_by l o = record { day = o.reply.day; records = l.records; sheet = o.sheet }

abbrev pub left_by : Lent → Made → Lent
left_by l (books q z list s) = record { day = z.day; records = list; sheet = s }
left_by l (drops name z list s) = record { day = z.day; records = list; sheet = s }
left_by l (plays report z report') = record { day = z.day; records = l.records; sheet = l.sheet }

abbrev pub left_after : Lent → List Made → Lent
left_after l [] = l
left_after l (c ∷ cs) = left_after (left_by l c) cs

-- ---- what is known of them

-- the contract of playback_open
abbrev pub MeetsOpening : Lent → Opening → Type 0
MeetsOpening l o =
    OpensOver l.day o.rounds o.disk o.memory l.sheet.opens l.sheet.reserves l.sheet.helds o.reply o.sheet.opens o.sheet.reserves o.sheet.helds

-- the contracts of playback_book, playback_drop and playback_play, over what the call was lent
abbrev pub Meets : List ℕ → Lent → Made → Type 0
Meets file l (books q z list s) =
    BooksOver file l.day l.records q l.sheet.opens l.sheet.reserves l.sheet.helds z list s.opens s.reserves s.helds
Meets file l (drops name z list s) =
    DropsOver file l.day l.records name l.sheet.opens l.sheet.reserves l.sheet.helds z list s.opens s.reserves s.helds
Meets file l (plays report z report') = PlaysOver file l.day l.records report z report'

-- "every call gets the same film file .. and lent lists", each what the last one left
abbrev pub InTurn : List ℕ → Lent → List Made → Type 0
InTurn file l [] = Unit {0}
InTurn file l (c ∷ cs) = Meets file l c × InTurn file (left_by l c) cs

-- an accepted opening, lent `before`, and the calls after it
pub record DayMade (file : List ℕ) (before : Lent) (o : Opening) (cs : List Made) : Type 0 where
  pub opens : MeetsOpening before o
  pub accepted : o.reply.refusal ≡ 0
  pub calls : InTurn file (opened_by before o) cs

-- ---- what is claimed of them

-- the bookings that stand
abbrev pub standing_in : Lent → List Booking
standing_in l = take l.day.count l.records

-- the lines that a call wrote: as many as its reply says
abbrev pub lines_made : Made → List Line
lines_made c = take (reply_in c).films (report_in c)

-- the lines of the booking that stands under this name, for as long as it stands
abbrev pub lines_named : ℕ → Lent → List Made → List Line
lines_named n l [] = []
lines_named n l (c ∷ cs) = of_name n (lines_made c) ++ cond (has_name n (standing_in (left_by l c))) (lines_named n (left_by l c) cs) []

-- what a state lends
abbrev pub lent_of : Setting → State → Lent
lent_of S d = record { day = day_of S d; records = d.records; sheet = record { opens = d.opens; reserves = d.reserves; helds = d.helds } }

-- what was lent, as the plain day's definitions take it
abbrev pub state_in : Lent → State
state_in l = state_of l.day l.records (length l.records) l.sheet.opens l.sheet.reserves l.sheet.helds

-- "with one film file and fixed limits", and the papers' loss table
abbrev pub setting_in : List ℕ → Opening → Setting
setting_in file o = setting_at file (asked o.rounds o.disk o.memory)

-- the plain day's answers as numbers, each with the day after it: the same T, D and M, its round, and how many stand
abbrev pub plain_replies : (S : Setting) → ℕ → ((bs : List Booking) → Dec (Fits S bs)) → PlainDay → List Arguments → List Reply
plain_replies S places fits s [] = []
plain_replies S places fits s (c ∷ cs) =
    let e = plain_call S places fits s c in
    reply_of e.answer (record { rounds = S.rounds; disk = S.disk; memory = S.memory; now = e.after.round; count = length e.after.standing })
    ∷ plain_replies S places fits e.after cs

-- every answer, every place of every report, and every record place, the count, the round and every sheet place at the end are the
-- plain day's, which is fed the calls' arguments; `fits` is any decision which lists of bookings fit
pub record PlainAsMade (S : Setting) (before first : Lent) (cs : List Made) (fits : (bs : List Booking) → Dec (Fits S bs)) : Type 0 where
  pub replied : map reply_in cs ≡ plain_replies S (length before.records) fits at_first (map arguments_of (map call_in cs))
  pub reported : map report_in cs
      ≡ all_written (plain_reports S (length before.records) fits at_first (map arguments_of (map call_in cs))) (map call_in cs)
  pub ended : left_after first cs
      ≡ lent_of S (expected S (state_in before) (plain_after S (length before.records) fits at_first (map arguments_of (map call_in cs)))
      (ever_taken S (length before.records) fits at_first (map arguments_of (map call_in cs))))

pub record SafeAsMade (S : Setting) (first : Lent) (cs : List Made) : Type 0 where
  -- "After every call the standing bookings keep limits and cabs in all T rounds", each with its own schedule
  pub kept : (earlier later : List Made) → cs ≡ earlier ++ later
      → let bs = standing_in (left_after first earlier) in Kept S bs (map (schedule_of S) bs)
  -- "on one booking's lines since it was accepted, the sends up to any line add up to at most the reads up to it"
  pub unread : (earlier later : List Made) (q : Request) (z : Reply) (list : List Booking) (s : Sheet)
      → cs ≡ earlier ++ (books q z list s ∷ later) → z.refusal ≡ 0 → (k : ℕ)
      → let lines = lines_named q.name (left_by (left_after first earlier) (books q z list s)) later in
      sum_send (take k lines) ≤ sum_read (take k lines)
  -- "In every report the reads plus loss(number of lines) are at most D and the held at most M."
  pub within : EachWithin S (map lines_made cs)

-- For every film file, everything lent to an opening that is accepted, and every list of calls after it.
abbrev pub AsMade : Type 0
AsMade =
    (file : List ℕ) (before : Lent) (o : Opening) (cs : List Made) → DayMade file before o cs
    → ((fits : (bs : List Booking) → Dec (Fits (setting_in file o) bs)) → PlainAsMade (setting_in file o) before (opened_by before o) cs fits)
    × SafeAsMade (setting_in file o) (opened_by before o) cs
