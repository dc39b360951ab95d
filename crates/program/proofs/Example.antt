-- The session of document 01, 'The program', from the bytes of films.bin and of the input to those of the output.
use Rattle.std.specs.Prelude.{◌≡◌, List, map, ℕ, Some, None}
use Rattle.std.proofs.Math.Path.{refl}
use Rattle.std.proofs.Common.{sym, ap, ◌∙◌}
use Rattle.films.specs.Questions.{head_questions, exceeds, rounds_in_range, size_questions, file_questions}
use Rattle.model.specs.Day.{Setting}
use Rattle.model.specs.Fit.{Fits}
use Rattle.model.specs.declared.Booking.{Booking}
use Rattle.commands.specs.Bytes.{bytes}
use Rattle.commands.specs.Grammar.{command_of}
use Rattle.lines.specs.Lines.{lines}
use Rattle.text.specs.Text.{spell, answer_fields}
use Rattle.console.specs.Session.{at_start}
use Rattle.console.specs.PlainSession.{unopened}
use Rattle.console.proofs.Claim.{session-text}
use Rattle.console.specs.Example as session
use Rattle.console.proofs.Example.{example}
use Rattle.program.specs.Program.{file_number, text_by, program_text}

-- the file is accepted
accepted : file_number session.film_file ≡ 0
unfolding file_number head_questions exceeds rounds_in_range size_questions file_questions
accepted = refl

module _ (fits : (S : Setting) (bs : List Booking) → Dec (Fits S bs)) where
  pub program-example : program_text fits (Some session.film_file) session.input ≡ session.output
  program-example =
      ap (λ (n : ℕ). text_by fits n session.film_file session.input) accepted
      ∙ sym (session-text session.film_file fits (map command_of (lines session.input)) at_start unopened refl)
      ∙ example

  -- "A missing file counts as empty": the file's first question says no, and the input is not read
  pub program-missing : (input : List ℕ) → program_text fits None input ≡ bytes "NO 1\n"
  unfolding file_number head_questions file_questions spell answer_fields
  program-missing input = refl
