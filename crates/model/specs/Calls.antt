-- The calls of a day, each as a function from everything lent and given to the answer and every lent place afterwards.
-- Document 01, 'A day at the desk' and 'Questions at the counter'. "A refusal returns its number only and changes nothing
-- lent, except that 22 leaves the sheet of the bookings as they stand."
use Rattle.std.specs.Prelude.{Bool, cond, ◌&&◌, List, [], ◌∷◌, ◌++◌, ℕ, zero, suc, ◌-◌, length, set, take, drop, leb, eqb}
use Rattle.std.specs.Int.Bits.{bit_or}
use Rattle.std.specs.Int.Count.{ones}
use Rattle.laws.specs.Questions.{Question, refusal}
use Rattle.limits.specs.Bounds.{max_day, max_disk, max_memory, max_bookings}
use Rattle.limits.specs.Refusals.{no_room, day_rounds, day_limits, unsound, no_start}
use Rattle.model.specs.Day.{Setting, State, record_of, cabs_at, opened, reserved, held}
use Rattle.model.specs.Fit.{Found, nowhere, at, first_of}
use Rattle.model.specs.Questions.{file_question, book_own, drop_own, play_own}
use Rattle.model.specs.Soundness.{sound_list, fit_test}
use Rattle.model.specs.Report.{lines_of, written}
use Rattle.model.specs.declared.Booking.{Booking}
use Rattle.model.specs.declared.Request.{Request}
use Rattle.model.specs.declared.Line.{Line}
use Rattle.model.specs.declared.Answer.{Answer}
use Rattle.model.specs.declared.Answer.TheVariants.{Refused, Opened, Booked, Dropped, Played}

-- what a call gives, and leaves of what it was lent
pub record Outcome : Type 0 where
  pub answer : Answer
  pub report : List Line
  pub state : State

-- the bookings that stand
abbrev pub standing : State → List Booking
standing d = take d.count d.records

-- the state in another round
abbrev pub at_round : ℕ → State → State
at_round now d =
    record {
      now = now;
      count = d.count;
      places = d.places;
      records = d.records;
      opens = d.opens;
      reserves = d.reserves;
      helds = d.helds;
    }

-- "zeroes the place freed"
abbrev pub no_booking : Booking
no_booking = record { name = 0; film = 0; start = 0; prefetch = 0; reserve = 0; cabs = 0 }

-- the list without the booking of this name
abbrev pub without : ℕ → List Booking → List Booking
without n [] = []
without n (b ∷ bs) = cond (eqb b.name n) bs (b ∷ without n bs)

-- f of n rounds from t on
abbrev pub per_round : (ℕ → ℕ) → ℕ → ℕ → List ℕ
per_round f t zero = []
per_round f t (suc n) = f t ∷ per_round f (suc t) n

-- "What stood there before counts for nothing. Places from T on are untouched."
abbrev pub worked_out : ℕ → (ℕ → ℕ) → List ℕ → List ℕ
worked_out n f old = per_round f 0 n ++ drop n old

module _ (S : Setting) where
  -- the state with these records, "the sheet worked out from the bookings" bs
  abbrev pub updated : State → ℕ → List Booking → List Booking → State
  updated d count records bs =
      record {
        now = d.now;
        count = count;
        places = d.places;
        records = records;
        opens = worked_out S.rounds (λ t. opened S t bs) d.opens;
        reserves = worked_out S.rounds (λ t. reserved S t bs) d.reserves;
        helds = worked_out S.rounds (λ t. held S t bs) d.helds;
      }

  -- a refusal
  abbrev pub refused : State → List Line → ℕ → Outcome
  refused d report k = record { answer = Refused k; report = report; state = d }

  -- ---- questions that several calls put

  -- "is T 1 to 86,400?"
  unfoldable pub rounds_in_range : Bool
  rounds_in_range = leb 1 S.rounds && leb S.rounds max_day

  -- "is T in range and `now` at most T?"
  unfoldable pub day_in_range : State → Bool
  day_in_range d = rounds_in_range && leb d.now S.rounds

  -- "Is D at most 4,294,967,295 and M at most 1,099,511,627,776?"
  unfoldable pub limits_in_range : Bool
  limits_in_range = leb S.disk max_disk && leb S.memory max_memory

  -- "Has every sheet list T places?"
  unfoldable pub sheet_long : State → Bool
  sheet_long d = leb S.rounds (length d.opens) && (leb S.rounds (length d.reserves) && leb S.rounds (length d.helds))

  -- "Is the list sound?": "at most 256 records, within the list", and as Soundness.antt has it
  unfoldable pub sound : State → Bool
  sound d = leb d.count max_bookings && (leb d.count d.places && sound_list S (standing d))

  -- ---- opening

  unfoldable pub open_questions : State → List Question
  open_questions d = (rounds_in_range, day_rounds) ∷ (limits_in_range, day_limits) ∷ (sheet_long d, no_room) ∷ []

  -- "The record count and `now` become 0; the records' places are untouched."
  abbrev pub open_with : State → ℕ → Outcome
  open_with d zero =
      record {
        answer = Opened;
        report = [];
        state = updated (at_round 0 d) 0 d.records [];
      }
  open_with d (suc k) = refused d [] (suc k)

  unfoldable pub open_call : State → Outcome
  open_call d = open_with d (refusal (open_questions d))

  -- ---- booking

  unfoldable pub book_questions : State → Request → List Question
  book_questions d q =
      file_question S
      ∷ (day_in_range d, day_rounds)
      ∷ (limits_in_range, day_limits)
      ∷ (sheet_long d, no_room)
      ∷ (sound d, unsound)
      ∷ book_own S (standing d) d.count d.places d.now q

  -- the first start of the window that fits beside the standing bookings
  unfoldable pub start_of : State → Request → Found
  start_of d q = first_of (λ s. fit_test S (standing d ++ (record_of q s ∷ []))) q.first q.last

  -- "Does a start in the window fit? 22." A booking "is appended with its start".
  abbrev pub book_with : State → Request → ℕ → Found → Outcome
  book_with d q zero (at s) =
      record {
        answer = Booked s;
        report = [];
        state = updated d (suc d.count) (set d.records d.count (record_of q s)) (standing d ++ (record_of q s ∷ []));
      }
  book_with d q zero nowhere = refused (updated d d.count d.records (standing d)) [] no_start
  book_with d q (suc k) o = refused d [] (suc k)

  unfoldable pub book_call : State → Request → Outcome
  book_call d q = book_with d q (refusal (book_questions d q)) (start_of d q)

  -- ---- drop

  -- "14, 15, 11, 16 as in booking. Is the name in the list? 19."
  unfoldable pub drop_questions : State → ℕ → List Question
  drop_questions d name =
      file_question S
      ∷ (day_in_range d, day_rounds)
      ∷ (limits_in_range, day_limits)
      ∷ (sheet_long d, no_room)
      ∷ (sound d, unsound)
      ∷ drop_own S (standing d) name

  -- "A drop removes its record, closes the gap, and zeroes the place freed."
  abbrev pub drop_with : State → ℕ → ℕ → Outcome
  drop_with d name zero =
      let rest = without name (standing d) in
      record {
        answer = Dropped;
        report = [];
        state = updated d (d.count - 1) (rest ++ (no_booking ∷ drop d.count d.records)) rest;
      }
  drop_with d name (suc k) = refused d [] (suc k)

  unfoldable pub drop_call : State → ℕ → Outcome
  drop_call d name = drop_with d name (refusal (drop_questions d name))

  -- ---- play

  -- "14, 15, 16. Is `now` below T? 23. Does the report take every open film? 11."
  unfoldable pub play_questions : State → ℕ → List Question
  play_questions d room =
      file_question S
      ∷ (day_in_range d, day_rounds)
      ∷ (limits_in_range, day_limits)
      ∷ (sound d, unsound)
      ∷ play_own S (standing d) d.now room

  -- the cabs of the films showing, joined to those in `taken`
  abbrev pub cabs_joined : ℕ → ℕ → List Booking → ℕ
  cabs_joined t taken [] = taken
  cabs_joined t taken (b ∷ bs) = cabs_joined t (bit_or taken (cabs_at S t b)) bs

  -- "writes one report line per open film in list order .. and gives the films open and the number of cabs served, which is
  -- the count of cab bits of the films showing. Then `now` rises by one."
  abbrev pub play_with : State → List Line → ℕ → Outcome
  play_with d report zero =
      let lines = lines_of S d.now (standing d) in
      record {
        answer = Played (length lines) (ones (cabs_joined d.now 0 (standing d)));
        report = written lines report;
        state = at_round (suc d.now) d;
      }
  play_with d report (suc k) = refused d report (suc k)

  unfoldable pub play_call : State → List Line → Outcome
  play_call d report = play_with d report (refusal (play_questions d (length report)))

-- ---- a list of calls

-- a call's arguments: play's is the lent report
pub data Call : Type 0 where
  booking : Request → Call
  dropping : ℕ → Call
  playing : List Line → Call

module _ (S : Setting) where
  abbrev pub call : State → Call → Outcome
  call d (booking q) = book_call S d q
  call d (dropping name) = drop_call S d name
  call d (playing report) = play_call S d report

  -- each on the day as the last one left it: every answer, every report, and the day at the end
  abbrev pub answers : State → List Call → List Answer
  answers d [] = []
  answers d (c ∷ cs) = (call d c).answer ∷ answers (call d c).state cs

  abbrev pub reports : State → List Call → List (List Line)
  reports d [] = []
  reports d (c ∷ cs) = (call d c).report ∷ reports (call d c).state cs

  abbrev pub after_all : State → List Call → State
  after_all d [] = d
  after_all d (c ∷ cs) = after_all (call d c).state cs
