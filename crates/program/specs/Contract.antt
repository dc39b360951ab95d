-- What the program's functions leave: at its film file, at the bytes of the input as they come, and at their end.
use Rattle.std.specs.Prelude.{Bool, true, false, cond, List, [], ◌∷◌, ℕ, zero, suc, leb, length, Result, Ok, Err}
use Rattle.lines.specs.Lines.{command_held, held_of}
use Rattle.lines.specs.Feeding.{fed_line}
use Rattle.lines.specs.declared.Splitter.{Splitter}
use Rattle.text.specs.Digits.{output_bytes}
use Rattle.console.specs.Session.{SessionState}
use Rattle.console.specs.Contract.{After, in_front, step_of}
use Rattle.program.specs.Program.{file_number, refusal_text}

-- ---- The film file

-- whether the program goes on, the output buffer, and how many of its bytes are printed
pub record Beginning : Type 0 where
  pub accepted : Bool
  pub buffer : List ℕ
  pub count : ℕ

abbrev pub beginning_of : Result (Unit {0}) ℕ → List ℕ → Beginning
beginning_of (Ok done) buffer = record { accepted = true; buffer = buffer; count = 0 }
beginning_of (Err count) buffer = record { accepted = false; buffer = buffer; count = count }

-- a refused file: its text at the front of the buffer; with a buffer of less than 8,192 bytes nothing is printed
unfoldable pub begin_by : ℕ → List ℕ → Beginning
begin_by zero buffer = record { accepted = true; buffer = buffer; count = 0 }
begin_by (suc k) buffer =
    cond (leb output_bytes (length buffer))
    (record { accepted = false; buffer = in_front (refusal_text (suc k)) buffer; count = length (refusal_text (suc k)) })
    (record { accepted = false; buffer = buffer; count = 0 })

abbrev pub begin_of : List ℕ → List ℕ → Beginning
begin_of file buffer = begin_by (file_number file) buffer

-- ---- The input

-- nothing is done
abbrev pub nothing : SessionState → List ℕ → After
nothing s buffer = record { state = s; buffer = buffer; count = 0 }

-- the line held is answered, if it has ended
unfoldable pub answered : List ℕ → SessionState → Splitter → List ℕ → After
answered file s p buffer = cond p.ended (step_of file s (command_held (held_of p)) buffer) (nothing s buffer)

-- bytes of the input are fed up to the end of a line, which is answered
unfoldable pub served_of : List ℕ → SessionState → Splitter → List ℕ → List ℕ → After
served_of file s p [] buffer = nothing s buffer
served_of file s p (b ∷ l) buffer = answered file s (fed_line p (b ∷ l)) buffer

-- "A line ends at byte 10 or the end of input; no line follows a final byte 10."
unfoldable pub ended_of : List ℕ → SessionState → Splitter → List ℕ → After
ended_of file s p buffer = cond p.ended (nothing s buffer) (step_of file s (command_held (held_of p)) buffer)
