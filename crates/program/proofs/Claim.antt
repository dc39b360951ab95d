-- The claim of the program: for every film file, every input and every way in which the input comes in reads, what it prints is
-- what its definition says (Program.antt). Assumes nothing.
use Rattle.std.specs.Prelude.{◌≡◌, refl, Bool, true, false, cond, leb, length, take, drop, Option, Some}
use Rattle.std.proofs.Common.{sym, ap, ◌∙◌, arith, length-take, take_at, take_all, le-leb, leb-true, leb-false}
use mathlib.Core.List.{List, [], ◌++◌, map, append-nil}
use Prim.Native.Nat.{ℕ, zero, suc, ◌+◌, ◌≤◌, ◌<◌}
use Rattle.limits.specs.Bounds.{hall_file}
use Rattle.model.specs.Day.{Setting}
use Rattle.model.specs.Fit.{Fits}
use Rattle.model.specs.declared.Booking.{Booking}
use Rattle.commands.specs.Grammar.{command_of}
use Rattle.lines.specs.Lines.{lines, started}
use Rattle.lines.proofs.Splits.{session-commands}
use Rattle.text.specs.Digits.{output_bytes}
use Rattle.console.specs.Session.{at_start}
use Rattle.console.specs.Contract.{printed}
use Rattle.console.specs.PlainSession.{unopened, plain_output}
use Rattle.console.proofs.Claim.{session-plain}
use Rattle.program.specs.Program.{bytes_of, file_number, refusal_text, text_by, program_text}
use Rattle.program.specs.Contract.{begin_by}
use Rattle.program.specs.Run.{reads_text, joined, run_text}
use Rattle.program.proofs.Laws.{number_long}
use Rattle.program.proofs.RunLaws.{reads-printed}

-- `fits` is any decision which lists of bookings fit in a setting (model/proofs/FitLaws.antt, `dec_fits`, is one)
module _ (fits : (S : Setting) (bs : List Booking) → Dec (Fits S bs)) where
  -- an input, in any reads: its lines are answered as the plain days of its accepted OPENs answer them
  pub input-plain : (file buffer : List ℕ) → output_bytes ≤ length buffer → (reads : List (List ℕ))
      → reads_text file at_start started buffer reads ≡ plain_output file fits unopened (map command_of (lines (joined reads)))
  input-plain file buffer room reads =
      reads-printed file reads at_start started buffer
      ∙ ap (printed file at_start buffer) (session-commands (joined reads))
      ∙ session-plain file fits buffer room (map command_of (lines (joined reads)))

  -- a run of the program, from its film file on
  pub program-plain : (films : Option (List ℕ)) (buffer : List ℕ) → output_bytes ≤ length buffer → (reads : List (List ℕ))
      → run_text (bytes_of films) buffer reads ≡ program_text fits films (joined reads)
  unfolding begin_by
  program-plain films buffer room reads = go (file_number file)
    where
      file : List ℕ
      file = bytes_of films

      go : (n : ℕ)
          → let begun = begin_by n buffer in
          take begun.count begun.buffer ++ cond begun.accepted (reads_text file at_start started begun.buffer reads) []
          ≡ text_by fits n file (joined reads)
      go zero = input-plain file buffer room reads
      go (suc k) =
          let text = refusal_text (suc k) in
          rw (le-leb output_bytes (length buffer) room)
          (append-nil (take (length text) (text ++ drop (length text) buffer)) ∙ take_at text (drop (length text) buffer) (length text) refl)

  -- one byte more than the program takes tells that a file is too long: what follows it need not be read
  pub file-front : (file input : List ℕ) → program_text fits (Some (take (hall_file + 1) file)) input ≡ program_text fits (Some file) input
  file-front file input = go (leb (length file) hall_file) refl
    where
      go : (t : Bool) → leb (length file) hall_file ≡ t
          → program_text fits (Some (take (hall_file + 1) file)) input ≡ program_text fits (Some file) input
      go true e = ap (λ (f : List ℕ). program_text fits (Some f) input) (take_all (hall_file + 1) file (omega (arith, leb-true (length file) hall_file e)))
      go false e =
          let long : hall_file < length file = leb-false (length file) hall_file e in
          let cut : hall_file < length (take (hall_file + 1) file) = omega (arith, length-take (hall_file + 1) file) in
          rw (sym (number_long file long), sym (number_long (take (hall_file + 1) file) cut)) refl
