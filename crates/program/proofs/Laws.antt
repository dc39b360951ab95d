-- Laws of the program's functions: the film file's number, and a line answered. Assumes nothing.
use Rattle.std.proofs.Math.Path.{◌≡◌, sym, ap}
use Rattle.std.proofs.Common.{arith, le-leb, ◌∙◌}
use Rattle.std.specs.Prelude.{Option, true, false, Bool}
use mathlib.Core.List.{List}
use Prim.Native.Nat.{ℕ, zero, suc, ◌≤◌, ◌<◌}
use Rattle.std.proofs.Math.ListN.{length}
use Rattle.std.proofs.lemmas.Bool.{lt-leb}
use Rattle.limits.specs.Bounds.{hall_file}
use Rattle.limits.specs.Refusals.{file_size}
use Rattle.films.specs.Questions.{verdict}
use Rattle.lines.specs.declared.Splitter.{Splitter}
use Rattle.text.specs.Digits.{output_bytes}
use Rattle.console.specs.Session.{SessionState}
use Rattle.console.specs.Contract.{in_front, After, step_of}
use Rattle.program.specs.Program.{file_number, refusal_text}
use Rattle.program.specs.Contract.{begin_by, begin_of, nothing, answered, ended_of}
use Rattle.std.proofs.Math.Bool.{cond}
use Rattle.commands.specs.declared.Command.{Command}
use Rattle.lines.specs.Lines.{command_held, held_of}

-- ---- The film file

module _ (file : List ℕ) where
  -- it is too long
  pub number_long : hall_file < length file → file_size ≡ file_number file
  unfolding file_number
  number_long h = rw (lt-leb (length file) hall_file h)

  -- it is not, and its own questions decide
  pub number_own : length file ≤ hall_file → verdict file ≡ file_number file
  unfolding file_number verdict
  number_own h = rw (le-leb (length file) hall_file h)

-- ---- How the program begins

-- the file is accepted
pub begin-accepted : (file buffer : List ℕ) → file_number file ≡ 0 → record { accepted = true; buffer = buffer; count = 0 } ≡ begin_of file buffer
unfolding begin_by
begin-accepted file buffer e = rw e

-- it is refused, and the buffer has no room
pub begin-short : (file buffer : List ℕ) → 0 < file_number file → length buffer < output_bytes
    → record { accepted = false; buffer = buffer; count = 0 } ≡ begin_of file buffer
unfolding begin_by
begin-short file buffer n h = go (file_number file) n
  where
    go : (k : ℕ) → 0 < k → record { accepted = false; buffer = buffer; count = 0 } ≡ begin_by k buffer
    go zero n = absurd (omega arith)
    go (suc k) n = rw (lt-leb output_bytes (length buffer) h)

-- it is refused, and its text is written
pub begin-refused : (file buffer : List ℕ) (k : ℕ) → k ≡ file_number file → 0 < k → output_bytes ≤ length buffer → (new : List ℕ) (n : ℕ)
    → new ≡ in_front (refusal_text k) buffer → n ≡ length (refusal_text k)
    → record { accepted = false; buffer = new; count = n } ≡ begin_of file buffer
unfolding begin_by
begin-refused file buffer k e m h new n p q = rw (sym e) (go k m p q)
  where
    go : (k : ℕ) → 0 < k → new ≡ in_front (refusal_text k) buffer → n ≡ length (refusal_text k)
        → record { accepted = false; buffer = new; count = n } ≡ begin_by k buffer
    go zero m p q = absurd (omega arith)
    go (suc k) m p q = rw (le-leb output_bytes (length buffer) h) (λ i. record { accepted = false; buffer = p i; count = q i })

-- ---- A line answered

module _ (file : List ℕ) (s : SessionState) (p : Splitter) (buffer : List ℕ) where
  pub answered-none : p.ended ≡ false → nothing s buffer ≡ answered file s p buffer
  unfolding answered
  answered-none e = rw e

module _ (file : List ℕ) where
  -- it is too long
  pub number-long : hall_file < length file → file_size ≡ file_number file
  unfolding file_number
  number-long h = rw (lt-leb (length file) hall_file h)

  -- it is not, and its own questions decide
  pub number-own : length file ≤ hall_file → verdict file ≡ file_number file
  unfolding file_number verdict
  number-own h = rw (le-leb (length file) hall_file h)

module _ (file : List ℕ) (s : SessionState) (p : Splitter) (buffer : List ℕ) where
  abbrev commanded : After
  commanded = step_of file s (command_held (held_of p)) buffer

  pub answered-one : p.ended ≡ true → (k : Option Command) → k ≡ command_held (held_of p) → (x : After) → x ≡ step_of file s k buffer
      → x ≡ answered file s p buffer
  unfolding answered
  answered-one e k u x v =
      v ∙ ap (λ (c : Option Command). step_of file s c buffer) u ∙ sym (ap (λ (t : Bool). cond t commanded (nothing s buffer)) e)

  pub ended-none : p.ended ≡ true → nothing s buffer ≡ ended_of file s p buffer
  unfolding ended_of
  ended-none e = sym (ap (λ (t : Bool). cond t (nothing s buffer) commanded) e)

  pub ended-one : p.ended ≡ false → (k : Option Command) → k ≡ command_held (held_of p) → (x : After) → x ≡ step_of file s k buffer
      → x ≡ ended_of file s p buffer
  unfolding ended_of
  ended-one e k u x v =
      v ∙ ap (λ (c : Option Command). step_of file s c buffer) u ∙ sym (ap (λ (t : Bool). cond t (nothing s buffer) commanded) e)
