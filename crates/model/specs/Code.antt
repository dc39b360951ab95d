-- The values that the code passes, as the definitions take them: a contract says that answer, day, records, sheet and
-- report afterwards are those of the call on `state_of ..` in `setting_of ..`.
use Rattle.std.specs.Prelude.{◌≡◌, List, ℕ, zero, suc}
use Rattle.laws.specs.Questions.{refusal}
use Rattle.films.specs.Layout.{Film}
use Rattle.model.specs.Day.{Setting, State}
use Rattle.model.specs.Calls.{open_questions, open_call}
use Rattle.model.specs.declared.Booking.{Booking}
use Rattle.model.specs.declared.Day.{Day}
use Rattle.model.specs.declared.Desk.{Desk}
use Rattle.model.specs.declared.Sheet.{Sheet}

-- from the file's verdict and films, the loss and the day
abbrev pub setting_of : ℕ → List Film → (ℕ → ℕ) → Day → Setting
setting_of verdict films loss day =
    record { verdict = verdict; films = films; loss = loss; rounds = day.rounds; disk = day.disk; memory = day.memory }

-- from the day, the records' first places, the length of the list of records, and the sheet's three lists
abbrev pub state_of : Day → List Booking → ℕ → List ℕ → List ℕ → List ℕ → State
state_of day records places opens reserves helds =
    record { now = day.now; count = day.count; places = places; records = records; opens = opens; reserves = reserves; helds = helds }

-- and back: the day of a state
abbrev pub day_of : Setting → State → Day
day_of S d = record { rounds = S.rounds; disk = S.disk; memory = S.memory; now = d.now; count = d.count }

-- the day after an opening in the setting S: the opened one, or where it is refused the one before
abbrev pub opened_day : Setting → State → Day → ℕ → Day
opened_day S d old zero = day_of S (open_call S d).state
opened_day S d old (suc k) = old

abbrev pub day_opened : Setting → State → Day → Day
day_opened S d old = opened_day S d old (refusal (open_questions S d))

-- ---- the same of the code's desk and sheet

abbrev pub state_in : Desk → Sheet → State
state_in desk sheet = state_of desk.day desk.rows desk.places sheet.opens.now sheet.reserves.now sheet.helds.now

-- the sheet's three lists are those that it had, whatever stands in them
pub record SameLists (before after : Sheet) : Type 0 where
  pub opens : after.opens.ghost_name ≡ before.opens.ghost_name
  pub reserves : after.reserves.ghost_name ≡ before.reserves.ghost_name
  pub helds : after.helds.ghost_name ≡ before.helds.ghost_name
