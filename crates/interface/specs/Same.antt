-- A call over a lent list of records is the call over its first 256 rows, with these put back: for every setting, everything lent and
-- every list. Assumes nothing.
use Rattle.std.specs.Prelude.{◌≡◌}
use mathlib.Core.List.{List}
use Rattle.std.proofs.Math.ListN.{length}
use Rattle.limits.specs.Bounds.{max_bookings}
use Rattle.model.specs.Day.{State}
use Rattle.model.specs.Calls.{Outcome}
use Rattle.model.specs.declared.Booking.{Booking}
use Rattle.interface.specs.Records.{stored}

-- a state whose records are these, in a list of as many places as `list`
abbrev pub over : State → List Booking → List Booking → State
over d list records =
    record { now = d.now; count = d.count; places = length list; records = records; opens = d.opens; reserves = d.reserves; helds = d.helds }

-- what a call over the rows gives is what the call over the list gives, once the rows are put back
pub record Same (list : List Booking) (x y : Outcome) : Type 0 where
  pub answer : x.answer ≡ y.answer
  pub report : x.report ≡ y.report
  pub now : x.state.now ≡ y.state.now
  pub count : x.state.count ≡ y.state.count
  pub records : stored max_bookings x.state.records list ≡ y.state.records
  pub opens : x.state.opens ≡ y.state.opens
  pub reserves : x.state.reserves ≡ y.state.reserves
  pub helds : x.state.helds ≡ y.state.helds
