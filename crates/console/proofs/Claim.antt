-- The claim of a session, for every film file and every list of commands: what it prints is what the plain days of its accepted
-- OPENs answer. Assumes nothing.
use Rattle.std.specs.Prelude.{◌≡◌, refl, List, [], ◌∷◌, ◌++◌, ℕ, ◌≤◌, length, Option}
use Rattle.std.proofs.Common.{ap₂, ◌∙◌}
use Rattle.model.specs.Day.{Setting}
use Rattle.model.specs.Fit.{Fits}
use Rattle.model.specs.declared.Booking.{Booking}
use Rattle.commands.specs.declared.Command.{Command}
use Rattle.text.specs.Digits.{output_bytes}
use Rattle.console.specs.Session.{SessionState, at_start, state_after, session_text, session_end}
use Rattle.console.specs.PlainSession.{PlainSession, unopened, plain_command, plain_output, plain_end}
use Rattle.console.specs.Contract.{printed}
use Rattle.console.proofs.Stepping.{printed-text}
use Rattle.console.proofs.PlainLaws.{Stands, keeps}

-- `fits` is any decision which lists of bookings fit in a setting (model/proofs/FitLaws.antt, `dec_fits`, is one)
module _ (file : List ℕ) (fits : (S : Setting) (bs : List Booking) → Dec (Fits S bs)) where
  -- the text of the desk's calls is that of the plain day
  pub session-text : (cs : List (Option Command)) (s : SessionState) (p : PlainSession) → Stands file fits s p
      → session_text file s cs ≡ plain_output file fits p cs
  session-text [] s p w = refl
  session-text (c ∷ cs) s p w =
      let k = keeps file fits s p c w in
      ap₂ (λ (t u : List ℕ). t ++ u) k.text (session-text cs (state_after file s c) (plain_command file fits p c).after k.after)

  ends : (cs : List (Option Command)) (s : SessionState) (p : PlainSession) → Stands file fits s p
      → Stands file fits (session_end file s cs) (plain_end file fits p cs)
  ends [] s p w = w
  ends (c ∷ cs) s p w = ends cs (state_after file s c) (plain_command file fits p c).after (keeps file fits s p c w).after

  -- after a list of commands day, records and sheet are those that the plain day expects (PlainLaws.antt, `Stands`)
  pub session-stands : (cs : List (Option Command)) → Stands file fits (session_end file at_start cs) (plain_end file fits unopened cs)
  session-stands cs = ends cs at_start unopened refl

  -- a list of commands, each carried out by `step` on what the last one left, with any buffer that has room
  pub session-plain : (buffer : List ℕ) → output_bytes ≤ length buffer → (cs : List (Option Command))
      → printed file at_start buffer cs ≡ plain_output file fits unopened cs
  session-plain buffer room cs = printed-text file cs at_start buffer room ∙ session-text cs at_start unopened refl
