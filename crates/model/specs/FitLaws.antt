-- A list of bookings fits exactly if the desk's test by the just-in-time schedules says so: these hold no more than any
-- others in each round, and the disk and the cabs do not turn on the schedules. Assumes nothing.
use Rattle.std.specs.Prelude.{List, ℕ, ◌+◌, ◌≤◌}
use Rattle.model.specs.Day.{Setting, opened, reserved, held, showing}
use Rattle.model.specs.declared.Booking.{Booking}

module _ (S : Setting) where
  -- what the test of a round says
  pub record Round (bs : List Booking) (t : ℕ) : Type 0 where
    pub disk : reserved S t bs + S.loss (opened S t bs) ≤ S.disk
    pub memory : held S t bs ≤ S.memory
    pub cabs : (k : ℕ) → showing S k t bs ≤ 1
