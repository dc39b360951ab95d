-- The desk without a booking. Document 01, 'A day at the desk': "A drop removes its record, closes the gap, and zeroes the
-- place freed."
use Rattle.std.specs.Prelude.{◌∷◌, ◌++◌, ℕ, ◌-◌, take, drop}
use Rattle.model.specs.Calls.{no_booking, without}
use Rattle.model.specs.declared.Desk.{Desk}

abbrev pub left : ℕ → Desk → Desk
left name desk =
    let day = desk.day in
    let n = day.count in
    record {
      day = record { rounds = day.rounds; disk = day.disk; memory = day.memory; now = day.now; count = n - 1 };
      rows = without name (take n desk.rows) ++ (no_booking ∷ drop n desk.rows);
      places = desk.places;
    }
