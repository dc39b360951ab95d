-- What the sheet of the bookings that stand is worked out from.
use Rattle.std.specs.Prelude.{◌≡◌, true, List, ℕ, ◌≤◌, take}
use Rattle.limits.specs.Bounds.{max_bookings, max_day}
use Rattle.model.specs.Soundness.{sound_list}
use Rattle.model.specs.declared.Desk.{Desk}
use Rattle.model.specs.declared.Sheet.{Sheet}
use Rattle.rounds.specs.Sheet.{Places}
use Rattle.questions.specs.Given.{setting_at}

-- the desk's bookings are a sound list by the file f, and the sheet has T places
pub record Stands (f : List ℕ) (desk : Desk) (sheet : Sheet) : Type 0 where
  pub rounds : desk.day.rounds ≤ max_day
  pub few : desk.day.count ≤ max_bookings
  pub sound : sound_list (setting_at f desk.day) (take desk.day.count desk.rows) ≡ true
  pub places : Places desk.day.rounds sheet.opens.now sheet.reserves.now sheet.helds.now
