-- The last number that a question lets pass and the first that it does not, on small days of film 1, by computation over the
-- definitions.
use Rattle.std.specs.Prelude.{◌≡◌, List, [], ◌∷◌, ℕ, replicate}
use Rattle.model.specs.Loss.{loss_at}
use Rattle.model.specs.Day.{Setting, State}
use Rattle.model.specs.Calls.{no_booking, booking, playing, call, answers}
use Rattle.model.specs.Figures.{film1, line}
use Rattle.model.specs.declared.Answer.{Answer}
use Rattle.model.specs.declared.Answer.TheVariants.{Refused, Booked, Played}

-- a day of so many rounds, with disk and memory for two films that start together
abbrev pub hall : ℕ → Setting
hall rounds =
    record {
      verdict = 0;
      films = record { number = 1; sizes = film1 } ∷ [];
      loss = loss_at;
      rounds = rounds;
      disk = 141433;
      memory = 24;
    }

-- in round `now`, with an empty list of so many places
abbrev pub empty : ℕ → ℕ → ℕ → State
empty rounds now places =
    record {
      now = now;
      count = 0;
      places = places;
      records = replicate places no_booking;
      opens = replicate rounds 7;
      reserves = replicate rounds 7;
      helds = replicate rounds 7;
    }

-- the answer to a booking of film 1 with these p, b and cabs and this window, on a list of two places
abbrev pub asked : ℕ → ℕ → ℕ → ℕ → ℕ → ℕ → ℕ → Answer
asked rounds now p b cabs first last =
    (call (hall rounds) (empty rounds now 2) (booking (record { name = 1; film = 1; prefetch = p; reserve = b; cabs = cabs; first = first; last = last }))).answer

-- two bookings from round 0 on, on a list of so many places, and a round played with so many report places
abbrev pub two_booked : ℕ → ℕ → List Answer
two_booked places room =
    answers (hall 7) (empty 7 0 places)
    (booking (record { name = 1; film = 1; prefetch = 1; reserve = 6; cabs = 1; first = 0; last = 0 })
    ∷ booking (record { name = 2; film = 1; prefetch = 1; reserve = 6; cabs = 2; first = 0; last = 0 })
    ∷ playing (replicate room (line 7 7 7 7))
    ∷ [])

pub record QuestionExamples : Type 0 where
  -- "Is p at most 256? 9.": 256 pre-fetch rounds pass it and meet 21
  pub prefetch-256 : asked 7 0 256 6 1 0 0 ≡ Refused 21
  pub prefetch-257 : asked 7 0 257 6 1 0 0 ≡ Refused 9
  -- "Is b at most 16,777,215? 10.": the largest reserve passes it and meets 22
  pub reserve-most : asked 7 0 1 16777215 1 0 0 ≡ Refused 22
  pub reserve-more : asked 7 0 1 16777216 1 0 0 ≡ Refused 10
  -- "Is some cab named? 20.": the last of the 64 is one
  pub cab-none : asked 7 0 1 6 0 0 0 ≡ Refused 20
  pub cab-last : asked 7 0 1 6 9223372036854775808 0 0 ≡ Booked 0
  -- "Then 12.": p 1 and b 5 have no schedule
  pub no-schedule : asked 7 0 1 5 1 0 0 ≡ Refused 12
  -- "Is now ≤ first ≤ last and last+p+n ≤ T? 21.": with p 1, p+n is 7
  pub last_fits : asked 8 0 1 6 1 0 1 ≡ Booked 0
  pub last-late : asked 8 0 1 6 1 0 2 ≡ Refused 21
  pub first-now : asked 8 1 1 6 1 1 1 ≡ Booked 1
  pub first_past : asked 8 1 1 6 1 0 1 ≡ Refused 21
  pub first-after-last : asked 8 0 1 6 1 1 0 ≡ Refused 21
  -- "Is there a place below both 256 and the list's length? 17.", in a list of one place; "Does the report take every open film? 11."
  pub one_place : two_booked 1 1 ≡ Booked 0 ∷ Refused 17 ∷ Played 1 0 ∷ []
  pub one-line-short : two_booked 2 1 ≡ Booked 0 ∷ Booked 0 ∷ Refused 11 ∷ []
  pub lines-enough : two_booked 2 2 ≡ Booked 0 ∷ Booked 0 ∷ Played 2 0 ∷ []
  -- "Is `now` below T? 23."
  pub last-round : (call (hall 7) (empty 7 6 1) (playing [])).answer ≡ Played 0 0
  pub day-over : (call (hall 7) (empty 7 7 1) (playing [])).answer ≡ Refused 23
