-- The paper's number and values for every answer.
use Rattle.std.specs.Prelude.{List, [], ◌∷◌, ℕ}
use Rattle.model.specs.declared.Answer.{Answer}
use Rattle.model.specs.declared.Answer.TheVariants.{Refused, Opened, Booked, Dropped, Played}

-- the number of the first question that says no; 0 if none does
abbrev pub number_of : Answer → ℕ
number_of (Refused k) = k
number_of Opened = 0
number_of (Booked s) = 0
number_of Dropped = 0
number_of (Played n c) = 0

-- what an accepted call gives: a booking its start; a played round "the films open and the number of cabs served"
abbrev pub values_of : Answer → List ℕ
values_of (Refused k) = []
values_of Opened = []
values_of (Booked s) = s ∷ []
values_of Dropped = []
values_of (Played n c) = n ∷ c ∷ []
