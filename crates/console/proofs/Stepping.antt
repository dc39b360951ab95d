-- A step from its parts: the command carried out, and its reply written. Assumes nothing.
use Rattle.std.specs.Prelude.{◌≡◌, ℕ, ◌≤◌, ◌<◌, drop, Option}
use Rattle.std.proofs.Math.Path.{refl, ap}
use Rattle.std.proofs.Common.{ap₂, ◌∙◌, arith, length-append, length-drop, take_at, le-leb}
use mathlib.Core.List.{List, [], ◌∷◌, ◌++◌}
use Rattle.std.proofs.Math.ListN.{length}
use Rattle.std.proofs.lemmas.Bool.{lt-leb}
use Rattle.limits.specs.Bounds.{hall_places}
use Rattle.commands.specs.declared.Command.{Command}
use Rattle.text.specs.Digits.{output_bytes}
use Rattle.text.proofs.Digits.{report-fits}
use Rattle.console.specs.Session.{SessionState, outcome_of, state_after, name_in, lines_told, text_of, session_text}
use Rattle.console.specs.Contract.{Carries, reply_text, in_front, after_of, step_of, printed}
use Rattle.console.proofs.Laws.{told}
use Rattle.playing.specs.Contract.{told_lines}
use Rattle.playing.specs.declared.Played.{Played}
use Rattle.model.specs.declared.Answer.{Answer}
use Rattle.model.specs.declared.Line.{Line}
use Rattle.model.specs.declared.Desk.{Desk}
use Rattle.model.specs.declared.Sheet.{Sheet}

module _ (file : List ℕ) (s : SessionState) (c : Option Command) where
  -- the buffer is too short
  pub step-none : (buffer : List ℕ) → length buffer < output_bytes → record { state = s; buffer = buffer; count = 0 } ≡ step_of file s c buffer
  unfolding step_of
  step-none buffer h = rw (lt-leb output_bytes (length buffer) h)

  module _ (k : Played) (desk : Desk) (sheet : Sheet) (w : Carries file s c k desk sheet) where
    -- the report's lines are few enough
    pub step-few : length (told_lines k.answer k.lines) ≤ hall_places
    step-few = let t = told file s c in omega (arith, ap length w.lines, t.count, t.few)

    -- the reply is the text of the command
    reply-same : (name : ℕ) → name ≡ name_in c → reply_text name s.day.now k.answer (told_lines k.answer k.lines) ≡ text_of file s c
    reply-same name e =
        ap₂ (λ (a : Answer) (ls : List Line). reply_text name s.day.now a ls) w.answer w.lines
        ∙ ap (λ (n : ℕ). reply_text n s.day.now (outcome_of file s c).answer (lines_told (outcome_of file s c))) e

    pub step-done : (buffer : List ℕ) → output_bytes ≤ length buffer → (name : ℕ) → name ≡ name_in c → (new : List ℕ) (n : ℕ)
        → new ≡ in_front (reply_text name s.day.now k.answer (told_lines k.answer k.lines)) buffer
        → n ≡ length (reply_text name s.day.now k.answer (told_lines k.answer k.lines))
        → after_of desk sheet new n ≡ step_of file s c buffer
    unfolding step_of
    step-done buffer h name e new n p q =
        let same = reply-same name e in
        let front : new ≡ in_front (text_of file s c) buffer = p ∙ ap (λ (t : List ℕ). in_front t buffer) same in
        let count : n ≡ length (text_of file s c) = q ∙ ap length same in
        rw (le-leb output_bytes (length buffer) h) (λ i. record { state = w.state i; buffer = front i; count = count i })

-- ---- Steps one after the other

module _ (file : List ℕ) where
  -- a text fits the buffer
  text-fits : (s : SessionState) (c : Option Command) → length (text_of file s c) ≤ output_bytes
  text-fits s c =
      let o = outcome_of file s c in
      let w = told file s c in
      omega (arith, report-fits (name_in c) s.day.now o.answer (lines_told o) (omega (arith, w.count, w.few)))

  front_length : (text buffer : List ℕ) → length text ≤ length buffer → length (in_front text buffer) ≡ length buffer
  front_length text buffer h = omega (arith, length-append text (drop (length text) buffer), length-drop (length text) buffer)

  -- what is printed is the session's text
  pub printed-text : (cs : List (Option Command)) (s : SessionState) (buffer : List ℕ) → output_bytes ≤ length buffer
      → printed file s buffer cs ≡ session_text file s cs
  unfolding step_of
  printed-text [] s buffer h = refl
  printed-text (c ∷ cs) s buffer h =
      let text = text_of file s c in
      let kept : length (in_front text buffer) ≡ length buffer = front_length text buffer (omega (arith, text-fits s c)) in
      rw (le-leb output_bytes (length buffer) h)
      (ap₂ (λ (t u : List ℕ). t ++ u)
      (take_at text (drop (length text) buffer) (length text) refl)
      (printed-text cs (state_after file s c) (in_front text buffer) (omega (arith, kept))))
