-- The values that the code passes, as the definitions take them: a contract says that answer, day, records, sheet and
-- report afterwards are those of the call on `state_of ..` in `setting_of ..`.
use Rattle.std.specs.Prelude.{◌≡◌, refl, List, ℕ}
use Rattle.films.specs.Layout.{Film}
use Rattle.model.specs.declared.Booking.{Booking}
use Rattle.model.specs.declared.Day.{Day}
use Rattle.model.specs.Code.{day_of, setting_of, state_of}

-- a day that is passed in and read back is the same
pub day-same : (verdict : ℕ) (films : List Film) (loss : ℕ → ℕ) (day : Day) (records : List Booking) (places : ℕ) (opens reserves helds : List ℕ)
    → day_of (setting_of verdict films loss day) (state_of day records places opens reserves helds) ≡ day
day-same verdict films loss day records places opens reserves helds = refl
