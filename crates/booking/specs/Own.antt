-- Booking's own questions over what the code asks of.
use Rattle.std.specs.Prelude.{Bool, ◌&&◌, ℕ, ◌+◌, leb, ltb}
use Rattle.limits.specs.Bounds.{max_bookings}
use Rattle.model.specs.declared.Request.{Request}
use Rattle.model.specs.declared.Day.{Day}

-- "Is now ≤ first ≤ last and last+p+n ≤ T?", of a film of n rounds
unfoldable pub window_holds : Day → Request → ℕ → Bool
window_holds day q n = leb day.now q.first && (leb q.first q.last && leb (q.last + q.prefetch + n) day.rounds)

-- "Is there a place below both 256 and the list's length?"
unfoldable pub place_holds : ℕ → ℕ → Bool
place_holds count places = ltb count max_bookings && ltb count places
