-- "A refusal returns its number only and changes nothing lent, except that 22 leaves the sheet of the bookings as they
-- stand." (demand 1) And what an accepted opening leaves. For every setting and everything lent and given. Assumes nothing.
use Rattle.std.specs.Prelude.{◌≡◌, List, ◌++◌, drop, replicate}
use Rattle.model.specs.Day.{Setting, State, opened, reserved, held}
use Rattle.model.specs.Calls.{Outcome, standing, worked_out}
use Rattle.model.specs.declared.Line.{Line}

-- the state and the report are as they were lent
pub record Unchanged (d : State) (lent : List Line) (o : Outcome) : Type 0 where
  pub state : o.state ≡ d
  pub report : o.report ≡ lent

-- all but the sheet is as it was lent; the sheet's first T places are the sums of the standing bookings
pub record SheetOnly (S : Setting) (d : State) (o : Outcome) : Type 0 where
  pub now : o.state.now ≡ d.now
  pub count : o.state.count ≡ d.count
  pub places : o.state.places ≡ d.places
  pub records : o.state.records ≡ d.records
  pub opens : o.state.opens ≡ worked_out S.rounds (λ t. opened S t (standing d)) d.opens
  pub reserves : o.state.reserves ≡ worked_out S.rounds (λ t. reserved S t (standing d)) d.reserves
  pub helds : o.state.helds ≡ worked_out S.rounds (λ t. held S t (standing d)) d.helds

-- "The record count and `now` become 0; the records' places are untouched", and the first T places of the sheet are zero
pub record Empty (S : Setting) (d : State) (o : Outcome) : Type 0 where
  pub now : o.state.now ≡ 0
  pub count : o.state.count ≡ 0
  pub places : o.state.places ≡ d.places
  pub records : o.state.records ≡ d.records
  pub opens : o.state.opens ≡ replicate S.rounds 0 ++ drop S.rounds d.opens
  pub reserves : o.state.reserves ≡ replicate S.rounds 0 ++ drop S.rounds d.reserves
  pub helds : o.state.helds ≡ replicate S.rounds 0 ++ drop S.rounds d.helds
