-- Safety (demand 3): "In no round does a film send an unread byte, is a limit passed or is a cab given two films", for
-- every list of calls.
use Rattle.std.specs.Prelude.{◌≡◌, refl, Bool, true, cond, List, [], ◌∷◌, ◌++◌, map, ℕ, zero, suc, ◌-◌, ◌≤◌, min, max, length, get_or}
use Rattle.std.proofs.Common.{sym, ap, ap₂, ◌∙◌, subst, inl, inr, arith}
use Rattle.std.proofs.Math.Seq.{take-append_seam}
use Rattle.laws.specs.Tests.{left, right, all}
use Rattle.laws.specs.Questions.{refusal}
use Rattle.limits.specs.Bounds.{max_bookings}
use Rattle.retrieval.specs.Schedule.{totals}
use Rattle.model.specs.Day.{Setting, State, record_of, sending, schedule_of, exists}
use Rattle.model.specs.Fit.{Fits, Found, nowhere, at}
use Rattle.model.specs.Questions.{has_name, file_question, book_own}
use Rattle.model.specs.Report.{written, EachWithin, of_name}
use Rattle.model.specs.Calls.{Outcome, standing, open_call, Call, booking, dropping, playing, call, after_all}
use Rattle.model.specs.PlainDay.{PlainDay, at_first, PlainOutcome, does, plain_book, plain_drop, plain_play, plain_number, plain_start, plain_call, plain_reports, plain_after, ever_taken}
use Rattle.model.specs.Loss.{Rising}
use Rattle.model.specs.Expected.{arguments_of, lent_report, expected}
use Rattle.model.proofs.FitLaws.{dec_fits}
use Rattle.model.specs.FirstFit.{Finds}
use Rattle.model.proofs.FirstFit.{search-finds}
use Rattle.model.proofs.SoundLaws.{sound-exist, sound-kept, asked}
use Rattle.model.specs.Steps.{Accepted, Good}
use Rattle.model.proofs.Steps.{step, stands-is}
use Rattle.model.proofs.Runs.{runs, good-first, opened-accepted, opened-expected}
use Rattle.model.proofs.ReportLaws.{within_all}
use Rattle.model.specs.UnreadLaws.{Stands}
use Rattle.model.proofs.UnreadLaws.{lines_since, stands-last, sent_before, read_before, fed}
use Rattle.model.specs.declared.Booking.{Booking}
use Rattle.model.specs.declared.Request.{Request}
use Rattle.model.specs.declared.Line.{Line}
use Rattle.model.specs.declared.Answer.TheVariants.{Opened, Booked}
use Rattle.model.specs.Safety.{Safe, call_lines, lines_for, lines_in, lines_of_all}

-- ---- the lines are the plain day's

stands-all : (f : Booking → Bool) (b : Booking) (bs : List Booking) → all f bs ≡ true → Stands b bs → f b ≡ true
stands-all f b [] e v = absurd v
stands-all f b (x ∷ bs) e (inl u) = ap f (sym u) ∙ left (f x) (all f bs) e
stands-all f b (x ∷ bs) e (inr v) = stands-all f b bs (right (f x) e) v

module _ (S : Setting) (lent : State) (fits : (bs : List Booking) → Dec (Fits S bs)) where
  -- an accepted booking stands last, at a start that is not past
  record Joined (q : Request) (x : ℕ) (e : PlainOutcome) : Type 0 where
    stands : Stands (record_of q x) e.after.standing
    future : e.after.round ≤ x

  joined : (s : PlainDay) (q : Request) (x n : ℕ)
      → refusal (file_question S ∷ book_own S s.standing (length s.standing) lent.places s.round q) ≡ n
      → (o : Found) → Finds (λ y. does (fits (s.standing ++ (record_of q y ∷ [])))) q.first (suc q.last - q.first) o
      → (plain_book S lent.places fits s q n o).answer ≡ Booked x
      → Joined q x (plain_book S lent.places fits s q n o)
  joined s q x zero e (at y) w a =
      let z : y ≡ x = cc in
      let k = asked S s.standing (length s.standing) lent.places s.round q e in
      record { stands = rw z (stands-last (record_of q x) s.standing); future = omega (arith, k.today, w.from) }
  joined s q x zero e nowhere w a = let z : ◌≡◌ {A = ℕ} 0 1 = cc in absurd (omega arith)
  joined s q x (suc k) e o w a = let z : ◌≡◌ {A = ℕ} 0 1 = cc in absurd (omega arith)

  -- nothing is sent or read before its start
  from_start : (b : Booking) (ex : exists S b ≡ true) (r : ℕ) → r ≤ b.start
      → (sent_before S b ex r ≡ 0) × (read_before S b ex r ≡ 0)
  from_start b ex r u =
      let e : min (r - b.start) (length (sending S b)) ≡ 0 = omega arith in
      (ap (λ (k : ℕ). get_or (0 ∷ totals 0 (sending S b)) k 0) e, ap (λ (k : ℕ). get_or (0 ∷ schedule_of S b) k 0) e)

  -- what is answered says how many lines are written
  book-wrote : (s : PlainDay) (q : Request) (old : List Line) (n : ℕ) (o : Found)
      → let e = plain_book S lent.places fits s q n o in lines_in e.answer (written e.lines old) ≡ e.lines
  book-wrote s q old zero nowhere = refl
  book-wrote s q old zero (at x) = refl
  book-wrote s q old (suc k) o = refl

  drop-wrote : (s : PlainDay) (name : ℕ) (old : List Line) (n : ℕ)
      → let e = plain_drop S lent.places fits s name n in lines_in e.answer (written e.lines old) ≡ e.lines
  drop-wrote s name old zero = refl
  drop-wrote s name old (suc k) = refl

  play-wrote : (s : PlainDay) (old : List Line) (n : ℕ)
      → let e = plain_play S lent.places fits s n in lines_in e.answer (written e.lines old) ≡ e.lines
  play-wrote s old zero = take-append_seam _ _
  play-wrote s old (suc k) = refl

  wrote : (s : PlainDay) (c : Call) (old : List Line)
      → let e = plain_call S lent.places fits s (arguments_of c) in lines_in e.answer (written e.lines old) ≡ e.lines
  wrote s (booking q) old = book-wrote s q old (plain_number S lent.places fits s (arguments_of (booking q))) (plain_start S lent.places fits s q)
  wrote s (dropping name) old = drop-wrote s name old (plain_number S lent.places fits s (arguments_of (dropping name)))
  wrote s (playing report) old = play-wrote s old (plain_number S lent.places fits s (arguments_of (playing report)))

module _ (S : Setting) (lent : State) (fits : (bs : List Booking) → Dec (Fits S bs)) (accepted : Accepted S lent) where
  same_lines : (s : PlainDay) (m : ℕ) → Good S lent fits accepted s m → (c : Call)
      → call_lines S (expected S lent s m) c ≡ (plain_call S lent.places fits s (arguments_of c)).lines
  same_lines s m g c =
      let v = step S lent fits accepted s m g c in
      ap₂ lines_in v.answer v.report ∙ wrote S lent fits s c (lent_report c)

  all_lines : (cs : List Call) (s : PlainDay) (m : ℕ) → Good S lent fits accepted s m
      → lines_of_all S (expected S lent s m) cs ≡ plain_reports S lent.places fits s (map arguments_of cs)
  all_lines [] s m g = refl
  all_lines (c ∷ cs) s m g =
      let v = step S lent fits accepted s m g c in
      let i = ap (λ (d : State). lines_of_all S d cs) v.state ∙ all_lines cs _ _ v.good in
      cc (same_lines s m g c, i)

  lines-for : (n : ℕ) (cs : List Call) (s : PlainDay) (m : ℕ) → Good S lent fits accepted s m
      → lines_for S n (expected S lent s m) cs ≡ lines_since S lent.places fits n s (map arguments_of cs)
  lines-for n [] s m g = refl
  lines-for n (c ∷ cs) s m g =
      let v = step S lent fits accepted s m g c in
      let s' = (plain_call S lent.places fits s (arguments_of c)).after in
      let st : standing (call S (expected S lent s m) c).state ≡ s'.standing =
      ap standing v.state ∙ stands-is S lent fits accepted s' _ in
      let i : lines_for S n (call S (expected S lent s m) c).state cs ≡ lines_since S lent.places fits n s' (map arguments_of cs) =
      ap (λ (d : State). lines_for S n d cs) v.state ∙ lines-for n cs s' _ v.good in
      ap₂ (λ (a b : List Line). a ++ b) (ap (of_name n) (same_lines s m g c))
      (ap₂ (λ (t : Bool) (a : List Line). cond t a []) (ap (has_name n) st) i)

-- the day that the plain day expects at first
expected-safe : (S : Setting) (lent : State) → Accepted S lent → Safe S (expected S lent at_first 0)
expected-safe S lent accepted =
    let fits = dec_fits S in
    let g0 = good-first S lent fits accepted in
    let N = lent.places in
    let first = expected S lent at_first 0 in
    record {
      kept = λ cs.
          let r = runs S lent fits accepted cs at_first 0 g0 in
          let s = plain_after S N fits at_first (map arguments_of cs) in
          let st : standing (after_all S first cs) ≡ s.standing = ap standing r.ended ∙ stands-is S lent fits accepted s _ in
          rw st (sound-kept S s.standing r.good.sound);
      within = λ cs.
          subst (EachWithin S) (sym (all_lines S lent fits accepted cs at_first 0 g0)) (within_all S lent fits accepted cs at_first 0 g0);
      unread = λ before q x said after k.
          let r = runs S lent fits accepted before at_first 0 g0 in
          let s = plain_after S N fits at_first (map arguments_of before) in
          let m = max 0 (ever_taken S N fits at_first (map arguments_of before)) in
          let d = expected S lent s m in
          let v = step S lent fits accepted s m r.good (booking q) in
          let E = plain_call S N fits s (arguments_of (booking q)) in
          let b = record_of q x in
          let same : call S (after_all S first before) (booking q) ≡ call S d (booking q) = ap (λ (y : State). call S y (booking q)) r.ended in
          let j = joined S lent fits s q x _ refl _
          (search-finds (λ y. does (fits (s.standing ++ (record_of q y ∷ [])))) q.first (suc q.last - q.first))
          (sym v.answer ∙ ap (λ (o : Outcome). o.answer) (sym same) ∙ said) in
          let ex : exists S b ≡ true = stands-all (exists S) b E.after.standing (sound-exist S E.after.standing v.good.sound) j.stands in
          let ls : lines_for S q.name (call S (after_all S first before) (booking q)).state after ≡ lines_since S N fits q.name E.after (map arguments_of after) =
          ap (λ (o : Outcome). lines_for S q.name o.state after) same
          ∙ ap (λ (y : State). lines_for S q.name y after) v.state
          ∙ lines-for S lent fits accepted q.name after E.after _ v.good in
          rw ls
          (omega (arith, fed S lent fits accepted b ex after E.after _ v.good j.stands k, from_start S lent fits b ex E.after.round j.future));
    }

-- ---- the claim

-- For every setting, everything lent, and every list of calls after an accepted opening. Assumes what `same-day` does.
pub safe : (S : Setting) (lent : State) → Rising S.loss → min lent.places max_bookings ≤ length lent.records
    → (open_call S lent).answer ≡ Opened → Safe S (open_call S lent).state
safe S lent rising room opened = subst (Safe S) (sym (opened-expected S lent opened)) (expected-safe S lent (opened-accepted S lent rising room opened))
