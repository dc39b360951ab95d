-- What the calls of the desk for C and Rust answer and leave: each what its definition in crate `model` says, over the lent lists
-- themselves, every place of them included, with the answer as plain numbers.
use Rattle.std.specs.Prelude.{◌≡◌, ◌↔◌, ◌⊎◌, List, ℕ, length}
use Rattle.laws.specs.Questions.{refusal}
use Rattle.limits.specs.Refusals.{no_start}
use Rattle.films.specs.Layout.{Film}
use Rattle.loss.specs.Loss.{loss_at}
use Rattle.model.specs.Day.{Setting, State}
use Rattle.model.specs.Fit.{FitsAt, First, None}
use Rattle.model.specs.Calls.{Outcome, standing, open_call, book_questions, book_call, drop_call, play_call}
use Rattle.model.specs.Code.{setting_of, state_of, day_of, day_opened}
use Rattle.model.specs.declared.Booking.{Booking}
use Rattle.model.specs.declared.Line.{Line}
use Rattle.model.specs.declared.Day.{Day}
use Rattle.model.specs.declared.Request.{Request}
use Rattle.opening.specs.Contract.{asked}
use Rattle.questions.specs.Given.{setting_at}
use Rattle.interface.specs.Calls.{Leaves}
use Rattle.interface.specs.Reply.{reply_of}
use Rattle.interface.specs.declared.reply.Reply.{Reply}

-- ---- opening

-- in the setting S on the state d; `before` is the day before, which a refusal leaves
pub record Opens (S : Setting) (d : State) (before : Day) (z : Reply) (o' r' h' : List ℕ) : Type 0 where
  pub reply : z ≡ reply_of (open_call S d).answer (day_opened S d before)
  pub opens : o' ≡ (open_call S d).state.opens
  pub reserves : r' ≡ (open_call S d).state.reserves
  pub helds : h' ≡ (open_call S d).state.helds

-- of the T, D and M asked for, with any film file and any records, since it is lent none
abbrev pub OpensOver : Day → ℕ → ℕ → ℕ → List ℕ → List ℕ → List ℕ → Reply → List ℕ → List ℕ → List ℕ → Type 0
OpensOver day rounds disk memory o r h z o' r' h' =
    (verdict : ℕ) (films : List Film) (rows : List Booking) (places : ℕ)
    → Opens (setting_of verdict films loss_at (asked rounds disk memory)) (state_of day rows places o r h) day z o' r' h'

-- ---- booking

-- no refusal, and the start is the first of the window that has P; or 22, which is so exactly if no start of the window has P
pub record RepliesFirst (P : ℕ → Type 0) (first last : ℕ) (z : Reply) : Type 0 where
  pub either : (z.refusal ≡ 0) ⊎ (z.refusal ≡ no_start)
  pub booked : z.refusal ≡ 0 → First P first last z.start
  pub refused : (z.refusal ≡ no_start) ↔ None P first last

-- the model's call in the setting S on the state d; where the questions before 22 pass, the first start at which some schedules
-- fit
pub record Books (S : Setting) (d : State) (q : Request) (z : Reply) (list' : List Booking) (o' r' h' : List ℕ) : Type 0 where
  pub leaves : Leaves S (book_call S d q) z list' o' r' h'
  pub first : refusal (book_questions S d q) ≡ 0 → RepliesFirst (FitsAt S (standing d) q) q.first q.last z

abbrev pub BooksOver : List ℕ → Day → List Booking → Request → List ℕ → List ℕ → List ℕ → Reply → List Booking → List ℕ → List ℕ → List ℕ → Type 0
BooksOver file day list q o r h = Books (setting_at file day) (state_of day list (length list) o r h) q

-- ---- drop

abbrev pub DropsOver : List ℕ → Day → List Booking → ℕ → List ℕ → List ℕ → List ℕ → Reply → List Booking → List ℕ → List ℕ → List ℕ → Type 0
DropsOver file day list name o r h = Leaves (setting_at file day) (drop_call (setting_at file day) (state_of day list (length list) o r h) name)

-- ---- play

-- the answer and the day after the call as numbers, and every place of the report
pub record Reports (S : Setting) (out : Outcome) (z : Reply) (report' : List Line) : Type 0 where
  pub reply : z ≡ reply_of out.answer (day_of S out.state)
  pub lines : report' ≡ out.report

-- with any sheet, since it is lent none
abbrev pub PlaysOver : List ℕ → Day → List Booking → List Line → Reply → List Line → Type 0
PlaysOver file day list report z report' =
    (o r h : List ℕ) → Reports (setting_at file day) (play_call (setting_at file day) (state_of day list (length list) o r h) report) z report'
