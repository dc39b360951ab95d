-- What a session's calls have in common with the plain day's: the lines told, and the places of the list and of the sheet. Assumes
-- nothing.
use Rattle.std.specs.Prelude.{◌≡◌, length}
use Rattle.limits.specs.Bounds.{max_bookings, hall_rounds}
use Rattle.console.specs.Session.{SessionState}

-- ---- Places

-- the list's and the sheet's places
pub record Places (s : SessionState) : Type 0 where
  pub rows : length s.rows ≡ max_bookings
  pub opens : length s.opens ≡ hall_rounds
  pub reserves : length s.reserves ≡ hall_rounds
  pub helds : length s.helds ≡ hall_rounds
