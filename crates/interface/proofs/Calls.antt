-- What a call over a lent list of records leaves, and that the call over its rows leaves it. For every setting and everything lent.
-- Assumes nothing.
use Rattle.std.specs.Prelude.{◌≡◌, List, ℕ}
use Rattle.std.proofs.Common.{ap₂}
use Rattle.model.specs.Day.{Setting, State}
use Rattle.model.specs.Calls.{Outcome}
use Rattle.model.specs.Code.{day_of}
use Rattle.model.specs.declared.Booking.{Booking}
use Rattle.interface.specs.Same.{Same}

-- a state's day is told by its round and its count
pub day-by : (S : Setting) (x y : State) → x.now ≡ y.now → x.count ≡ y.count → day_of S x ≡ day_of S y
day-by S x y = ap₂ (λ (n c : ℕ). record { rounds = S.rounds; disk = S.disk; memory = S.memory; now = n; count = c })

pub same-day : (S : Setting) (list : List Booking) (x y : Outcome) → Same list x y → day_of S x.state ≡ day_of S y.state
same-day S list x y s = day-by S x.state y.state s.now s.count
