-- What booking is to leave: the answer, the day, every record place and every place of the sheet, as the model's call says.
use Rattle.std.specs.Prelude.{◌≡◌, List, ℕ, Result, Ok, Err}
use Rattle.limits.specs.Refusals.{number_of}
use Rattle.limits.specs.declared.refusals.Refusal.{Refusal}
use Rattle.model.specs.Day.{Setting}
use Rattle.model.specs.Calls as Calls
use Rattle.model.specs.Calls.{book_call}
use Rattle.model.specs.Code.{day_of, state_in}
use Rattle.model.specs.declared.Answer.{Answer}
use Rattle.model.specs.declared.Answer.TheVariants.{Refused, Booked}
use Rattle.model.specs.declared.Request.{Request}
use Rattle.model.specs.declared.Desk.{Desk}
use Rattle.model.specs.declared.Sheet.{Sheet}
use Rattle.questions.specs.Given.{setting_at}

-- the answer that tells a start, or a refusal
abbrev pub booked : Result ℕ Refusal → Answer
booked (Ok start) = Booked start
booked (Err refusal) = Refused (number_of refusal)

pub record Leaves (S : Setting) (out : Calls.Outcome) (a : Answer) (desk : Desk) (sheet : Sheet) : Type 0 where
  pub answer : a ≡ out.answer
  pub day : desk.day ≡ day_of S out.state
  pub rows : desk.rows ≡ out.state.records
  pub opens : sheet.opens.now ≡ out.state.opens
  pub reserves : sheet.reserves.now ≡ out.state.reserves
  pub helds : sheet.helds.now ≡ out.state.helds

-- a booking of the request q, of any film file
abbrev pub Books : List ℕ → Request → Desk → Sheet → Answer → Desk → Sheet → Type 0
Books file q desk sheet = Leaves (setting_at file desk.day) (book_call (setting_at file desk.day) (state_in desk sheet) q)
