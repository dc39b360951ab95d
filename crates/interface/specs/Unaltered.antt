-- "A refusal returns its number only and changes nothing lent, except that 22 leaves the sheet of the bookings as they stand." (demand
-- 1): what the contracts of the desk's calls say of a refusal, over everything that they are lent. Assumes nothing.
use Rattle.std.specs.Prelude.{◌≡◌, List, ℕ}
use Rattle.model.specs.declared.Booking.{Booking}
use Rattle.model.specs.declared.Day.{Day}
use Rattle.interface.specs.declared.reply.Reply.{Reply}

-- the day that is given back, every place of the list of records and every place of the sheet are as they were
pub record Stays (day : Day) (list : List Booking) (z : Reply) (list' : List Booking) : Type 0 where
  pub same-day : z.day ≡ day
  pub records : list' ≡ list

pub record SheetStays (o r h o' r' h' : List ℕ) : Type 0 where
  pub opens : o' ≡ o
  pub reserves : r' ≡ r
  pub helds : h' ≡ h
