-- The session of document 01, 'The program', by computation over the definitions. The loss is the papers' table. (The starred lines are
-- crate `starred_lines`'s table.)
use Rattle.std.specs.Prelude.{◌≡◌, List, [], ◌∷◌, ℕ, replicate}
use Rattle.limits.specs.Bounds.{hall_rounds, hall_places}
use Rattle.model.specs.Loss.{loss_at}
use Rattle.model.specs.Day.{Setting, State}
use Rattle.model.specs.Calls.{open_call, Call, booking, playing, answers, reports}
use Rattle.model.specs.declared.Line.{Line}
use Rattle.model.specs.declared.Answer.TheVariants.{Refused, Opened, Booked, Played}

-- "Film 1 has sizes 8, 8, 8, 2, 6, 4"
abbrev pub film1 : List ℕ
film1 = 8 ∷ 8 ∷ 8 ∷ 2 ∷ 6 ∷ 4 ∷ []

-- "OPEN 20 141433 18" and others: "Film 1 .. is the only film."
abbrev pub day : ℕ → ℕ → Setting
day disk memory =
    record {
      verdict = 0;
      films = record { number = 1; sizes = film1 } ∷ [];
      loss = loss_at;
      rounds = 20;
      disk = disk;
      memory = memory;
    }

-- "Its sheet has 1,024 rounds and its list 64 places", here with something in every place
abbrev pub lent : State
lent =
    record {
      now = 9;
      count = 9;
      places = hall_places;
      records = replicate hall_places (record { name = 7; film = 7; start = 7; prefetch = 7; reserve = 7; cabs = 7 });
      opens = replicate hall_rounds 7;
      reserves = replicate hall_rounds 7;
      helds = replicate hall_rounds 7;
    }

abbrev pub opened : ℕ → ℕ → State
opened disk memory = (open_call (day disk memory) lent).state

-- "BOOK name 1 1 6 cabs first last"
abbrev pub book : ℕ → ℕ → ℕ → ℕ → Call
book name cabs first last =
    booking (record { name = name; film = 1; prefetch = 1; reserve = 6; cabs = cabs; first = first; last = last })

abbrev pub line : ℕ → ℕ → ℕ → ℕ → Line
line name read send held = record { name = name; read = read; send = send; held = held }

-- a report with room for two lines
abbrev pub report : List Line
report = line 7 7 7 7 ∷ line 7 7 7 7 ∷ []

-- the input of 'The program', after its first line
abbrev pub session : List Call
session = book 1 1 0 0 ∷ book 2 2 0 10 ∷ book 3 1 0 5 ∷ playing report ∷ playing report ∷ []

pub record Figures : Type 0 where
  -- the session's output: "OPENED", "BOOKED 1 0", "BOOKED 2 3", "NO 22", "ROUND 0 1 0", "ROUND 1 1 1"
  pub opens : (open_call (day 141433 18) lent).answer ≡ Opened
  pub answered : answers (day 141433 18) (opened 141433 18) session ≡ Booked 0 ∷ Booked 3 ∷ Refused 22 ∷ Played 1 0 ∷ Played 1 1 ∷ []
  -- and its lines "1 6 0 6" and "1 6 8 12"
  pub reported : reports (day 141433 18) (opened 141433 18) session
      ≡ [] ∷ [] ∷ [] ∷ (line 1 6 0 6 ∷ line 7 7 7 7 ∷ []) ∷ (line 1 6 8 12 ∷ line 7 7 7 7 ∷ []) ∷ []
