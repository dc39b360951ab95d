-- No unread byte: on one booking's lines since it was accepted, the sends up to any line add up to at most the reads up to
-- it. The invariant `Fed` says so of the lines to come, together with what its schedule sent and read in its rounds before.
-- Assumes what `Accepted` says.
use Rattle.std.specs.Prelude.{◌≡◌, ◌⊎◌, List, [], ◌∷◌}
use Rattle.model.specs.declared.Booking.{Booking}

-- the booking stands in the list
abbrev pub Stands : Booking → List Booking → Type 0
Stands b [] = ⊥
Stands b (x ∷ bs) = (x ≡ b) ⊎ Stands b bs
