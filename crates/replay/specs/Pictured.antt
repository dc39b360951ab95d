-- What a replay finds between two entries: the lent day is the one that the plain day expects, so that 14, 15, 11 and 16 would pass and
-- need not be asked. Assumes nothing.
use Rattle.std.specs.Prelude.{◌≡◌, ℕ}
use Rattle.model.specs.Day.{Setting, State}
use Rattle.model.specs.PlainDay.{PlainDay}
use Rattle.model.specs.Expected.{expected}
use Rattle.model.proofs.FitLaws.{dec_fits}
use Rattle.model.specs.Steps.{Accepted, Good}

-- d is the picture of a plain day that was reached from an accepted opening
pub record Pictured (S : Setting) (d : State) : Type 0 where
  pub lent : State
  pub accepted : Accepted S lent
  pub plain : PlainDay
  pub taken : ℕ
  pub good : Good S lent (dec_fits S) accepted plain taken
  pub is : d ≡ expected S lent plain taken
