-- The plain day: what it keeps, and what it answers. Document 01, 'The plain day'; lay the two side by side.
use Rattle.std.specs.Prelude.{Bool, true, false, cond, List, [], ◌∷◌, ◌++◌, ℕ, zero, suc, max, length, eqb}
use Rattle.std.specs.Int.Count.{ones}
use Rattle.laws.specs.Questions.{refusal}
use Rattle.limits.specs.Refusals.{no_start}
use Rattle.model.specs.Day.{Setting, record_of, total, cabs_at}
use Rattle.model.specs.Fit.{Fits, Found, nowhere, at, first_of}
use Rattle.model.specs.Questions.{file_question, book_own, drop_own, play_own}
use Rattle.model.specs.Report.{lines_of}
use Rattle.model.specs.declared.Booking.{Booking}
use Rattle.model.specs.declared.Request.{Request}
use Rattle.model.specs.declared.Line.{Line}
use Rattle.model.specs.declared.Answer.{Answer}
use Rattle.model.specs.declared.Answer.TheVariants.{Refused, Booked, Dropped, Played}

-- "It keeps the standing bookings in order, none at first, and a round r, 0 at first."
pub record PlainDay : Type 0 where
  pub standing : List Booking
  pub round : ℕ

abbrev pub at_first : PlainDay
at_first = record { standing = []; round = 0 }

-- "each call's arguments (for play the report's length)"
pub data Arguments : Type 0 where
  booking : Request → Arguments
  dropping : ℕ → Arguments
  playing : ℕ → Arguments

-- what it answers, the report lines it writes, and what it keeps then
pub record PlainOutcome : Type 0 where
  pub answer : Answer
  pub lines : List Line
  pub after : PlainDay

-- "A drop takes the name out; the rest keep their order."
abbrev pub others : ℕ → List Booking → List Booking
others n [] = []
others n (b ∷ bs) = cond (eqb b.name n) (others n bs) (b ∷ others n bs)

-- what a decision says
abbrev pub does : {A : Type 0} → Dec A → Bool
does (yes a) = true
does (no a) = false

-- "It is fed what an accepted opening was given, the film file, the record list's length": the setting and `places`. `fits`
-- is any decision which lists of bookings fit; FirstFit.antt, `plain-first`, says what that makes of a start.
module _ (S : Setting) (places : ℕ) (fits : (bs : List Booking) → Dec (Fits S bs)) where
  -- "Each call puts the file's questions, then its own from 18, 19 or 23 on, to these": the number of the first that says
  -- no
  abbrev pub plain_number : PlainDay → Arguments → ℕ
  plain_number s (booking q) = refusal (file_question S ∷ book_own S s.standing (length s.standing) places s.round q)
  plain_number s (dropping name) = refusal (file_question S ∷ drop_own S s.standing name)
  plain_number s (playing room) = refusal (file_question S ∷ play_own S s.standing s.round room)

  -- "the first start from its first to its last that fits"
  abbrev pub plain_start : PlainDay → Request → Found
  plain_start s q = first_of (λ x. does (fits (s.standing ++ (record_of q x ∷ [])))) q.first q.last

  -- "A refused call answers its number and changes nothing."
  abbrev pub plain_refused : PlainDay → ℕ → PlainOutcome
  plain_refused s k = record { answer = Refused k; lines = []; after = s }

  -- "joins the end and answers that start"
  abbrev pub plain_book : PlainDay → Request → ℕ → Found → PlainOutcome
  plain_book s q zero (at x) =
      record {
        answer = Booked x;
        lines = [];
        after = record { standing = s.standing ++ (record_of q x ∷ []); round = s.round };
      }
  plain_book s q zero nowhere = plain_refused s no_start
  plain_book s q (suc k) o = plain_refused s (suc k)

  abbrev pub plain_drop : PlainDay → ℕ → ℕ → PlainOutcome
  plain_drop s name zero =
      record { answer = Dropped; lines = []; after = record { standing = others name s.standing; round = s.round } }
  plain_drop s name (suc k) = plain_refused s (suc k)

  -- "It answers the number of lines and the count of cab bits of the bookings showing in r. Then r rises by one."
  abbrev pub plain_play : PlainDay → ℕ → PlainOutcome
  plain_play s zero =
      let lines = lines_of S s.round s.standing in
      record {
        answer = Played (length lines) (total (λ b. ones (cabs_at S s.round b)) s.standing);
        lines = lines;
        after = record { standing = s.standing; round = suc s.round };
      }
  plain_play s (suc k) = plain_refused s (suc k)

  abbrev pub plain_call : PlainDay → Arguments → PlainOutcome
  plain_call s (booking q) = plain_book s q (plain_number s (booking q)) (plain_start s q)
  plain_call s (dropping name) = plain_drop s name (plain_number s (dropping name))
  plain_call s (playing room) = plain_play s (plain_number s (playing room))

  -- ---- a list of calls

  abbrev pub plain_answers : PlainDay → List Arguments → List Answer
  plain_answers s [] = []
  plain_answers s (c ∷ cs) = (plain_call s c).answer ∷ plain_answers (plain_call s c).after cs

  abbrev pub plain_reports : PlainDay → List Arguments → List (List Line)
  plain_reports s [] = []
  plain_reports s (c ∷ cs) = (plain_call s c).lines ∷ plain_reports (plain_call s c).after cs

  abbrev pub plain_after : PlainDay → List Arguments → PlainDay
  plain_after s [] = s
  plain_after s (c ∷ cs) = plain_after (plain_call s c).after cs

  -- the most that ever stood at once: so many record places were "ever taken"
  abbrev pub ever_taken : PlainDay → List Arguments → ℕ
  ever_taken s [] = length s.standing
  ever_taken s (c ∷ cs) = max (length s.standing) (ever_taken (plain_call s c).after cs)
