-- "Bookings stand in a lent list of records" (document 01, 'A day at the desk'): how a lent list and the 256 rows by value
-- that the calls work on are made of each other.
use Rattle.std.specs.Prelude.{List, ◌++◌, ℕ, ◌-◌, min, length, take, drop, replicate}
use Rattle.limits.specs.Bounds.{max_bookings}
use Rattle.model.specs.Calls.{no_booking}
use Rattle.model.specs.declared.Booking.{Booking}
use Rattle.model.specs.declared.Day.{Day}
use Rattle.model.specs.declared.Desk.{Desk}

-- the first records of a lent list, at most 256, and blank ones up to 256
abbrev pub loaded : List Booking → List Booking
loaded list = take max_bookings list ++ replicate (max_bookings - length list) no_booking

-- the desk that a call over a lent list works on
abbrev pub desk_of : Day → List Booking → Desk
desk_of day list = record { day = day; rows = loaded list; places = length list }

-- how many of `count` rows a lent list takes: at most 256, and at most as many as it has places
abbrev pub fitting : ℕ → ℕ → ℕ
fitting count places = min (min count max_bookings) places

-- a lent list whose first places have become the first `count` rows, as far as it takes them, and whose others are as they were
abbrev pub stored : {A : Type 0} → ℕ → List A → List A → List A
stored count rows list = take (fitting count (length list)) rows ++ drop (fitting count (length list)) list
