-- The entries by the model's calls are the plain day's: by induction over `step`, which goes from picture to picture of the lent
-- day. Assumes what `Accepted` says: an opening that was not refused, and a loss that rises.
use Rattle.std.specs.Prelude.{◌≡◌, refl, Bool, true, false, cond, Option, Some, None, List, [], ◌∷◌, ◌++◌, ℕ, zero, suc, ◌-◌, ◌≤◌, max, length, take, drop, replicate, leb}
use Rattle.std.proofs.Common.{sym, ap, ap₂, ◌∙◌, subst, arith}
use Rattle.std.proofs.lemmas.List.{length-replicate}
use Rattle.std.proofs.Math.Seq.{take-append_seam}
use Rattle.limits.specs.Refusals.{command_form}
use Rattle.model.specs.Day.{Setting, State}
use Rattle.model.specs.Fit.{Fits, Found, nowhere, at}
use Rattle.model.specs.Calls as Calls
use Rattle.model.specs.Calls.{Outcome}
use Rattle.model.specs.Code.{day_of}
use Rattle.model.specs.PlainDay.{PlainDay, PlainOutcome, Arguments, at_first, plain_refused, plain_number, plain_start, plain_book, plain_drop, plain_play, plain_after, ever_taken}
use Rattle.model.specs.PlainDay as P
use Rattle.model.specs.Expected.{expected}
use Rattle.model.specs.Steps.{Accepted, Good, Matches}
use Rattle.model.proofs.Steps.{step}
use Rattle.model.proofs.Runs.{good-first}
use Rattle.model.specs.declared.Booking.{Booking}
use Rattle.model.specs.declared.Request.{Request}
use Rattle.model.specs.declared.Line.{Line}
use Rattle.playing.specs.Lines.{no_line}
use Rattle.playing.specs.Contract.{lines_in}
use Rattle.replay.specs.Log.{logged_words}
use Rattle.replay.specs.PlainRun.{calls_of, plain_entry, entry_log, plain_log, entries_done}
use Rattle.replay.specs.Contract.{result_after}
use Rattle.replay.specs.DeskRun.{DeskRun, blank_report, outcome_words, after_run, no_run, carried, desk_run, run_result}
use Rattle.replay.specs.declared.journal.Entry.{Entry}
use Rattle.replay.specs.declared.journal.Entry.TheVariants.{Book, Drop, Play}

module _ (S : Setting) (lent : State) (fits : (bs : List Booking) → Dec (Fits S bs)) (accepted : Accepted S lent) where
  -- ---- one entry

  -- no call
  kept : (s : PlainDay) (m k : ℕ) → Good S lent fits accepted s m
      → Matches S lent fits accepted (Calls.refused S (expected S lent s m) [] k) (plain_refused S lent.places fits s k) [] m
  kept s m k g =
      let x : max m (length s.standing) ≡ m = omega (arith, g.most) in
      record { answer = refl; report = refl; state = ap (expected S lent s) (sym x); good = rw x g }

  pub entry-step : (s : PlainDay) (m : ℕ) → Good S lent fits accepted s m → (e : Option Entry)
      → Matches S lent fits accepted (carried S (expected S lent s m) e) (plain_entry S lent.places fits s e) (blank_report e) m
  entry-step s m g (Some (Book q)) = step S lent fits accepted s m g (Calls.booking q)
  entry-step s m g (Some (Drop name)) = step S lent fits accepted s m g (Calls.dropping name)
  entry-step s m g (Some (Play room)) =
      let v = step S lent fits accepted s m g (Calls.playing (replicate room no_line)) in
      subst
      (λ (n : ℕ). Matches S lent fits accepted (carried S (expected S lent s m) (Some (Play room))) (P.plain_call S lent.places fits s (P.playing n)) (replicate room no_line) m)
      (length-replicate room no_line) v
  entry-step s m g None = kept s m command_form g

  -- an answer says how many lines there are
  book-lines : (s : PlainDay) (q : Request) (n : ℕ) (o : Found)
      → lines_in (plain_book S lent.places fits s q n o).answer ≡ length (plain_book S lent.places fits s q n o).lines
  book-lines s q zero (at x) = refl
  book-lines s q zero nowhere = refl
  book-lines s q (suc k) o = refl

  drop-lines : (s : PlainDay) (name n : ℕ)
      → lines_in (plain_drop S lent.places fits s name n).answer ≡ length (plain_drop S lent.places fits s name n).lines
  drop-lines s name zero = refl
  drop-lines s name (suc k) = refl

  play-lines : (s : PlainDay) (n : ℕ)
      → lines_in (plain_play S lent.places fits s n).answer ≡ length (plain_play S lent.places fits s n).lines
  play-lines s zero = refl
  play-lines s (suc k) = refl

  entry-lines : (s : PlainDay) (e : Option Entry)
      → lines_in (plain_entry S lent.places fits s e).answer ≡ length (plain_entry S lent.places fits s e).lines
  entry-lines s (Some (Book q)) = book-lines s q (plain_number S lent.places fits s (P.booking q)) (plain_start S lent.places fits s q)
  entry-lines s (Some (Drop name)) = drop-lines s name (plain_number S lent.places fits s (P.dropping name))
  entry-lines s (Some (Play room)) = play-lines s (plain_number S lent.places fits s (P.playing room))
  entry-lines s None = refl

  -- the same words
  matched-words : (o : Outcome) (e : PlainOutcome) (old : List Line) (m : ℕ) → Matches S lent fits accepted o e old m
      → lines_in e.answer ≡ length e.lines → outcome_words o ≡ logged_words e.answer e.lines
  matched-words o e old m v k =
      ap₂ logged_words v.answer
      (ap₂ take (ap lines_in v.answer ∙ k) v.report ∙ take-append_seam e.lines (drop (length e.lines) old))

  entry-words : (s : PlainDay) (m : ℕ) → Good S lent fits accepted s m → (e : Option Entry)
      → outcome_words (carried S (expected S lent s m) e) ≡ entry_log S lent.places fits s e
  entry-words s m g e =
      matched-words (carried S (expected S lent s m) e) (plain_entry S lent.places fits s e) (blank_report e) m (entry-step s m g e) (entry-lines s e)

  -- ---- a list of entries

  after-entry : (s : PlainDay) (e : Option Entry) (es : List (Option Entry))
      → plain_after S lent.places fits s (calls_of (e ∷ es)) ≡ plain_after S lent.places fits (plain_entry S lent.places fits s e).after (calls_of es)
  after-entry s (Some (Book q)) es = refl
  after-entry s (Some (Drop name)) es = refl
  after-entry s (Some (Play room)) es = refl
  after-entry s None es = refl

  ever-least : (s : PlainDay) (cs : List Arguments) → length s.standing ≤ ever_taken S lent.places fits s cs
  ever-least s [] = omega arith
  ever-least s (c ∷ cs) = omega arith

  taken-entry : (s : PlainDay) (m : ℕ) → length s.standing ≤ m → (e : Option Entry) (es : List (Option Entry))
      → max (max m (length (plain_entry S lent.places fits s e).after.standing)) (ever_taken S lent.places fits (plain_entry S lent.places fits s e).after (calls_of es))
      ≡ max m (ever_taken S lent.places fits s (calls_of (e ∷ es)))
  taken-entry s m h e es = go e (ever-least (plain_entry S lent.places fits s e).after (calls_of es))
    where
      go : (e : Option Entry) → length (plain_entry S lent.places fits s e).after.standing ≤ ever_taken S lent.places fits (plain_entry S lent.places fits s e).after (calls_of es)
          → max (max m (length (plain_entry S lent.places fits s e).after.standing)) (ever_taken S lent.places fits (plain_entry S lent.places fits s e).after (calls_of es))
          ≡ max m (ever_taken S lent.places fits s (calls_of (e ∷ es)))
      go (Some (Book q)) u = omega arith
      go (Some (Drop name)) u = omega arith
      go (Some (Play room)) u = omega arith
      go None u = omega arith

  -- a run r is the plain day's, from s on with at most m ever standing before, of the entries es
  record Same (s : PlainDay) (m : ℕ) (es : List (Option Entry)) (r : DeskRun) : Type 0 where
    entries : r.entries ≡ length es
    words : r.words ≡ plain_log S lent.places fits s es
    state : r.state ≡ expected S lent (plain_after S lent.places fits s (calls_of es)) (max m (ever_taken S lent.places fits s (calls_of es)))

  same_none : (s : PlainDay) (m : ℕ) → Good S lent fits accepted s m → Same s m [] (no_run (expected S lent s m))
  same_none s m g =
      let x : m ≡ max m (length s.standing) = omega (arith, g.most) in
      record { entries = refl; words = refl; state = ap (expected S lent s) x }

  same-run : (es : List (Option Entry)) (s : PlainDay) (m room : ℕ) → Good S lent fits accepted s m
      → Same s m (take (entries_done S lent.places fits s room es) es) (desk_run S (expected S lent s m) room es)
  same-run [] s m room g = same_none s m g
  same-run (e ∷ es) s m room g =
      let v = entry-step s m g e in
      let s' = (plain_entry S lent.places fits s e).after in
      let m' = max m (length s'.standing) in
      let L = entry_log S lent.places fits s e in
      let n = entries_done S lent.places fits s' (room - length L) es in
      let i = same-run es s' m' (room - length L) v.good in
      let R = desk_run S (expected S lent s' m') (room - length L) es in
      let d = expected S lent s m in
      let run : (ws : List ℕ) → State → DeskRun =
      λ ws t. cond (leb (length ws) room) (after_run 1 ws (desk_run S t (room - length ws) es)) (no_run d) in
      let more : Same s m (e ∷ take n es) (after_run 1 L R) =
      record {
        entries = omega (arith, i.entries);
        words = ap (λ (ws : List ℕ). L ++ ws) i.words;
        state = i.state ∙ ap₂ (expected S lent) (sym (after-entry s e (take n es))) (taken-entry s m g.most e (take n es));
      } in
      let go : (b : Bool) → Same s m (take (cond b (suc n) 0) (e ∷ es)) (cond b (after_run 1 L R) (no_run d)) =
      pick (λ b. Same s m (take (cond b (suc n) 0) (e ∷ es)) (cond b (after_run 1 L R) (no_run d))) more (same_none s m g) in
      subst (λ (r : DeskRun). Same s m (take (entries_done S lent.places fits s room (e ∷ es)) (e ∷ es)) r)
      (sym (ap₂ run (entry-words s m g e) v.state)) (go (leb (length L) room))
    where
      pick : (F : Bool → Type 0) → F true → F false → (b : Bool) → F b
      pick F t f true = t
      pick F t f false = f

  -- from the opened day on
  pub run-result : (room : ℕ) (es : List (Option Entry)) → run_result S (desk_run S (expected S lent at_first 0) room es)
      ≡ result_after S lent fits (take (entries_done S lent.places fits at_first room es) es)
  run-result room es =
      let r = same-run es at_first 0 room (good-first S lent fits accepted) in
      let cs = calls_of (take (entries_done S lent.places fits at_first room es) es) in
      let x : max 0 (ever_taken S lent.places fits at_first cs) ≡ ever_taken S lent.places fits at_first cs = omega arith in
      let z = r.state ∙ ap (expected S lent (plain_after S lent.places fits at_first cs)) x in
      λ i. record { refusal = 0; entries = r.entries i; words = r.words i; day = day_of S (z i); state = z i }
