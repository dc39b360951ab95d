-- Drop. Document 01, 'A day at the desk': "A drop removes its record, closes the gap, and zeroes the place freed." 'Questions
-- at the counter': the file's questions, "14, 15, 11, 16 as in booking. Is the name in the list? 19." "A refusal returns its
-- number only and changes nothing lent".
use Rattle.std.specs.Prelude.{◌≡◌, ℕ}
use Rattle.model.specs.Day.{Setting, State}
use Rattle.model.specs.Calls.{drop_call}
use Rattle.model.specs.Code.{day_of}
use Rattle.model.specs.declared.Answer.{Answer}
use Rattle.model.specs.declared.Desk.{Desk}
use Rattle.model.specs.declared.Sheet.{Sheet}

-- the answer a, the day, every record place and the sheet afterwards are those of the model's drop in the setting S on the
-- state d; the length of the list is as it was
pub record Drops (S : Setting) (d : State) (name : ℕ) (a : Answer) (desk : Desk) (sheet : Sheet) : Type 0 where
  pub answer : a ≡ (drop_call S d name).answer
  pub day : desk.day ≡ day_of S (drop_call S d name).state
  pub rows : desk.rows ≡ (drop_call S d name).state.records
  pub places : desk.places ≡ d.places
  pub opens : sheet.opens.now ≡ (drop_call S d name).state.opens
  pub reserves : sheet.reserves.now ≡ (drop_call S d name).state.reserves
  pub helds : sheet.helds.now ≡ (drop_call S d name).state.helds
