-- What the program prints, from the bytes of its film file and of its input alone. Document 01, 'The program'.
use Rattle.std.specs.Prelude.{List, [], ◌∷◌, map, ℕ, zero, suc, leb, length, Option, Some, None}
use Rattle.limits.specs.Bounds.{hall_file}
use Rattle.limits.specs.Refusals.{file_size}
use Rattle.laws.specs.Questions.{refusal}
use Rattle.films.specs.Questions.{file_questions}
use Rattle.model.specs.Day.{Setting}
use Rattle.model.specs.Fit.{Fits}
use Rattle.model.specs.declared.Booking.{Booking}
use Rattle.model.specs.declared.Answer.TheVariants.{Refused}
use Rattle.commands.specs.Grammar.{command_of}
use Rattle.lines.specs.Lines.{lines}
use Rattle.text.specs.Text.{answer_text}
use Rattle.console.specs.PlainSession.{unopened, plain_output}

-- "`hall` reads `films.bin`. .. A missing file counts as empty"
abbrev pub bytes_of : Option (List ℕ) → List ℕ
bytes_of None = []
bytes_of (Some file) = file

-- "Is it at most 65,536 bytes? 25.", and then the file's own questions: the first "no" gives the number, 0 if none says no
unfoldable pub file_number : List ℕ → ℕ
file_number file = refusal ((leb (length file) hall_file, file_size) ∷ file_questions file)

-- "A refusal prints NO and its number."
abbrev pub refusal_text : ℕ → List ℕ
refusal_text number = answer_text 0 0 (Refused number)

-- `fits` is any decision which lists of bookings fit in a setting (model/proofs/FitLaws.antt, `dec_fits`, is one)
module _ (fits : (S : Setting) (bs : List Booking) → Dec (Fits S bs)) where
  -- "a refused one ends the program": its number, and no line is read; else the lines of the input are answered in turn
  abbrev pub text_by : ℕ → List ℕ → List ℕ → List ℕ
  text_by zero file input = plain_output file fits unopened (map command_of (lines input))
  text_by (suc k) file input = refusal_text (suc k)

  -- what is printed for films.bin, or where there is none, and an input
  abbrev pub program_text : Option (List ℕ) → List ℕ → List ℕ
  program_text films input = text_by (file_number (bytes_of films)) (bytes_of films) input
