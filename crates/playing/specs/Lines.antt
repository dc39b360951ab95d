-- The lines of a report as an array has them, and a line by a booking's stream.
use Rattle.std.specs.Prelude.{List, ◌++◌, ℕ, ◌-◌, min, length, get_or, replicate}
use Rattle.limits.specs.Bounds.{max_bookings}
use Rattle.model.specs.declared.Booking.{Booking}
use Rattle.model.specs.declared.Line.{Line}
use Rattle.load.specs.Stream.{sends_of, profile_of}
use Rattle.load.specs.declared.stream.Stream.{Stream}

-- a place with no line
abbrev pub no_line : Line
no_line = record { name = 0; read = 0; send = 0; held = 0 }

-- the lines, and none in the other places of the array
abbrev pub padded : List Line → List Line
padded lines = lines ++ replicate (max_bookings - length lines) no_line

-- the line of a booking in round t, by its stream: what is held, and of it no more than the reserve is new
abbrev pub line_at : List ℕ → ℕ → Booking → Stream → Line
line_at f t b x =
    record {
      name = b.name;
      read = min x.reserve (get_or (profile_of f x) (t - x.start) 0);
      send = get_or (sends_of f x) (t - x.start) 0;
      held = get_or (profile_of f x) (t - x.start) 0;
    }
