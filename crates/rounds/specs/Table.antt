-- Words of workspace: a row of words for each of some bookings, one after the other; and the marks of a booking.
use Rattle.std.specs.Prelude.{List, [], ◌∷◌, ◌++◌, ℕ, ◌+◌, ◌*◌, map}
use Rattle.model.specs.Calls.{per_round}
use Rattle.load.specs.Stream.{no_stream, carry_from}
use Rattle.load.specs.declared.stream.Stream.{Stream}
use Rattle.rounds.specs.declared.marks.Marked.{Marked}

-- the rows of these bookings
abbrev pub rows_of : (Stream → List ℕ) → List Stream → List ℕ
rows_of row [] = []
rows_of row (x ∷ xs) = row x ++ rows_of row xs

-- ---- the carry at every 256th round of a booking

-- rounds from a mark to the next
abbrev pub mark_rounds : ℕ
mark_rounds = 256

-- marks of a booking: the last lies past its end
abbrev pub mark_count : ℕ
mark_count = 18

-- the carry of its rounds from mark j on
abbrev pub mark_of : List ℕ → Stream → ℕ → ℕ
mark_of f x j = carry_from f (x.start + mark_rounds * j) x

-- its row
unfoldable pub marks_of : List ℕ → Stream → List ℕ
marks_of f x = per_round (mark_of f x) 0 mark_count

-- the booking with them
abbrev pub marked_of : List ℕ → Stream → Marked
marked_of f x = record { stream = x; carries = marks_of f x }

-- a place with no booking
abbrev pub no_marked : Marked
no_marked = record { stream = no_stream; carries = [] }

-- the bookings of a list with their marks
abbrev pub streams_in : List Marked → List Stream
streams_in bookings = map (λ (m : Marked). m.stream) bookings
