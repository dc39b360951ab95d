-- Opening. Document 01, 'Questions at the counter': "is T 1 to 86,400? 14. Is D at most 4,294,967,295 and M at most
-- 1,099,511,627,776? 15. Has every sheet list T places? 11. The record count and `now` become 0; the records' places are
-- untouched."
use Rattle.std.specs.Prelude.{◌≡◌, ℕ}
use Rattle.model.specs.Day.{Setting, State}
use Rattle.model.specs.Calls.{open_call}
use Rattle.model.specs.Code.{day_opened}
use Rattle.model.specs.declared.Answer.{Answer}
use Rattle.model.specs.declared.Day.{Day}
use Rattle.model.specs.declared.Sheet.{Sheet}

-- the day that is asked for: T, D and M
abbrev pub asked : ℕ → ℕ → ℕ → Day
asked rounds disk memory = record { rounds = rounds; disk = disk; memory = memory; now = 0; count = 0 }

-- the answer, the day and the sheet afterwards are those of the model's opening in the setting S on the state d; `before` is
-- the day before
pub record Opens (S : Setting) (d : State) (before : Day) (a : Answer) (after : Day) (sheet : Sheet) : Type 0 where
  pub answer : a ≡ (open_call S d).answer
  pub day : after ≡ day_opened S d before
  pub opens : sheet.opens.now ≡ (open_call S d).state.opens
  pub reserves : sheet.reserves.now ≡ (open_call S d).state.reserves
  pub helds : sheet.helds.now ≡ (open_call S d).state.helds
