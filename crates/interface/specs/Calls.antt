-- What a call over a lent list of records leaves, and that the call over its rows leaves it. For every setting and everything lent.
-- Assumes nothing.
use Rattle.std.specs.Prelude.{◌≡◌, List, ℕ}
use Rattle.model.specs.Day.{Setting}
use Rattle.model.specs.Calls.{Outcome}
use Rattle.model.specs.Code.{day_of}
use Rattle.model.specs.declared.Answer.{Answer}
use Rattle.model.specs.declared.Booking.{Booking}
use Rattle.model.specs.declared.Day.{Day}
use Rattle.interface.specs.Reply.{reply_of}
use Rattle.interface.specs.declared.reply.Reply.{Reply}

-- the answer and the day after the call as numbers, every place of the list of records, and every place of the sheet
pub record Leaves (S : Setting) (o : Outcome) (r : Reply) (list : List Booking) (opened reserved held : List ℕ) : Type 0 where
  pub reply : r ≡ reply_of o.answer (day_of S o.state)
  pub records : list ≡ o.state.records
  pub opens : opened ≡ o.state.opens
  pub reserves : reserved ≡ o.state.reserves
  pub helds : held ≡ o.state.helds

-- what the call on the desk of its rows gives and leaves: x is its definition
pub record Gives (S : Setting) (x : Outcome) (a : Answer) (day : Day) (rows : List Booking) (opened reserved held : List ℕ) : Type 0 where
  pub answer : a ≡ x.answer
  pub after : day ≡ day_of S x.state
  pub records : rows ≡ x.state.records
  pub opens : opened ≡ x.state.opens
  pub reserves : reserved ≡ x.state.reserves
  pub helds : held ≡ x.state.helds
