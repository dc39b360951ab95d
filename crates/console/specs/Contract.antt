-- What a step and its parts are to leave.
use Rattle.std.specs.Prelude.{◌≡◌, cond, List, [], ◌∷◌, ◌++◌, ℕ, leb, length, take, drop, Option}
use Rattle.model.specs.declared.Answer.{Answer}
use Rattle.model.specs.declared.Desk.{Desk}
use Rattle.model.specs.declared.Line.{Line}
use Rattle.model.specs.declared.Sheet.{Sheet}
use Rattle.commands.specs.declared.Command.{Command}
use Rattle.text.specs.Text.{answer_text, report_text}
use Rattle.text.specs.Digits.{output_bytes}
use Rattle.console.specs.Session.{SessionState, outcome_of, state_after, lines_told, text_of}
use Rattle.playing.specs.Lines.{padded}
use Rattle.playing.specs.Contract.{told_lines}
use Rattle.playing.specs.declared.Played.{Played}

-- a desk with the sheet that is lent beside it; its list has 64 places, whatever the desk says
abbrev pub with_sheet : Desk → Sheet → SessionState
with_sheet desk sheet =
    record { day = desk.day; rows = desk.rows; opens = sheet.opens.now; reserves = sheet.reserves.now; helds = sheet.helds.now }

-- a command carried out: the desk and the sheet, the answer, and the report's lines in an array that has no line after them
pub record Carries (file : List ℕ) (s : SessionState) (c : Option Command) (r : Played) (desk : Desk) (sheet : Sheet) : Type 0 where
  pub state : with_sheet desk sheet ≡ state_after file s c
  pub answer : r.answer ≡ (outcome_of file s c).answer
  pub lines : told_lines r.answer r.lines ≡ lines_told (outcome_of file s c)
  pub array : r.lines ≡ padded (lines_told (outcome_of file s c))

-- the text of an answer and of its report's lines
abbrev pub reply_text : ℕ → ℕ → Answer → List Line → List ℕ
reply_text name round answer lines = answer_text name round answer ++ report_text lines

-- everything after a step: the session with its sheet, the output buffer, and how many of its bytes are the answer's text
pub record After : Type 0 where
  pub state : SessionState
  pub buffer : List ℕ
  pub count : ℕ

abbrev pub after_of : Desk → Sheet → List ℕ → ℕ → After
after_of desk sheet buffer count = record { state = with_sheet desk sheet; buffer = buffer; count = count }

-- the text at the front of the buffer; every other place as it was
abbrev pub in_front : List ℕ → List ℕ → List ℕ
in_front text buffer = text ++ drop (length text) buffer

-- a step: the command carried out, and its text at the front of the buffer. With a buffer that has no room for the longest
-- answer, 8,192 bytes, nothing is done.
unfoldable pub step_of : List ℕ → SessionState → Option Command → List ℕ → After
step_of file s c buffer =
    cond (leb output_bytes (length buffer))
    (record { state = state_after file s c; buffer = in_front (text_of file s c) buffer; count = length (text_of file s c) })
    (record { state = s; buffer = buffer; count = 0 })

-- what is printed by writing the text's bytes of the buffer after each step
abbrev pub printed : List ℕ → SessionState → List ℕ → List (Option Command) → List ℕ
printed file s buffer [] = []
printed file s buffer (c ∷ cs) =
    let after = step_of file s c buffer in
    take after.count after.buffer ++ printed file after.state after.buffer cs
