-- The claim on the calls as they were made (AsMade.antt), `as-made`: what a call's contract says is what the model's call says on the state
-- that the plain day expects, so the model's step from expected state to expected state carries over, call by call. Assumes nothing.
use Rattle.std.specs.Prelude.{◌≡◌, Bool, cond, length, take, drop, replicate}
use Rattle.std.proofs.Math.Path.{refl}
use Rattle.std.proofs.Common.{sym, ◌∙◌, ap, ap₂, subst, arith, length-append, length-drop}
use mathlib.Core.List.{List, [], ◌∷◌, ◌++◌, map}
use Prim.Native.Nat.{ℕ, zero, suc, ◌-◌, ◌≤◌, min, max}
use Rattle.std.proofs.lemmas.List.{length-replicate}
use Rattle.laws.specs.Questions.{refusal}
use Rattle.limits.specs.Bounds.{max_bookings}
use Rattle.films.specs.Questions.{verdict}
use Rattle.films.specs.Decode.{films_of}
use Rattle.loss.proofs.Rising.{loss-rising}
use Rattle.model.specs.Day.{Setting, State, schedule_of}
use Rattle.model.specs.Fit.{Fits, Kept, Found, nowhere, at}
use Rattle.model.specs.Questions.{has_name}
use Rattle.model.specs.Report.{sum_read, sum_send, EachWithin, of_name}
use Rattle.model.specs.Answers.{number_of}
use Rattle.model.specs.Calls.{Outcome, no_booking, open_questions, open_with, open_call, book_questions, start_of, book_with, book_call, drop_questions, drop_with, drop_call, play_questions, play_with, play_call, booking, call, reports, after_all}
use Rattle.model.specs.Code.{state_of, day_of, opened_day, day_opened}
use Rattle.model.specs.PlainDay.{PlainDay, at_first, plain_call, plain_after, ever_taken}
use Rattle.model.specs.Expected.{arguments_of, expected}
use Rattle.model.proofs.FitLaws.{dec_fits}
use Rattle.model.specs.Steps.{Accepted, Good}
use Rattle.model.proofs.Steps.{step}
use Rattle.model.proofs.Runs.{runs, good-first, opened-accepted, opened-expected}
use Rattle.model.proofs.Order.{open-number}
use Rattle.model.specs.Safety.{lines_in}
use Rattle.model.specs.Safety.{call_lines, lines_of_all, lines_for, Safe}
use Rattle.model.proofs.Safety.{safe}
use Rattle.model.specs.declared.Answer.{Answer}
use Rattle.model.specs.declared.Answer.TheVariants.{Refused, Opened, Booked, Dropped, Played}
use Rattle.model.specs.declared.Booking.{Booking}
use Rattle.model.specs.declared.Line.{Line}
use Rattle.model.specs.declared.Day.{Day}
use Rattle.model.specs.declared.Request.{Request}
use Rattle.interface.specs.Calls.{Leaves}
use Rattle.interface.specs.Reply.{reply_of}
use Rattle.interface.proofs.ReplyLaws.{reply-number, reply-day}
use Rattle.interface.specs.DeskCalls.{Reports}
use Rattle.interface.specs.AsMade.{Sheet, Lent, Opening, Made, books, drops, plays, call_in, reply_in, report_in, opened_by, left_by, left_after, Meets, InTurn, DayMade, standing_in, lines_made, lines_named, lent_of, state_in, setting_in, plain_replies, PlainAsMade, SafeAsMade, AsMade}
use Rattle.interface.specs.declared.reply.Reply.{Reply}

-- ---- one call

-- what it leaves is what the model's call leaves
left_is : (S : Setting) (out : Outcome) (z : Reply) (list : List Booking) (s : Sheet) → Leaves S out z list s.opens s.reserves s.helds
    → ◌≡◌ {A = Lent} (record { day = z.day; records = list; sheet = s }) (lent_of S out.state)
left_is S out z list s l =
    let d : z.day ≡ day_of S out.state = ap (λ (t : Reply). t.day) l.reply ∙ reply-day out.answer (day_of S out.state) in
    λ i. record { day = d i; records = l.records i; sheet = record { opens = l.opens i; reserves = l.reserves i; helds = l.helds i } }

-- an opening that is not refused
opened-said : (S : Setting) (d : State) → refusal (open_questions S d) ≡ 0 → (open_call S d).answer ≡ Opened
unfolding open_call
opened-said S d e = ap (λ (n : ℕ). (open_with S d n).answer) e

-- a booking that is not refused
booked-start : (S : Setting) (d : State) (q : Request) → number_of (book_call S d q).answer ≡ 0 → (x : ℕ) × ((book_call S d q).answer ≡ Booked x)
unfolding book_call
booked-start S d q = go (refusal (book_questions S d q)) (start_of S d q)
  where
    go : (n : ℕ) (f : Found) → number_of (book_with S d q n f).answer ≡ 0 → (x : ℕ) × ((book_with S d q n f).answer ≡ Booked x)
    go zero nowhere e = absurd (omega arith)
    go zero (at s) e = (s, refl)
    go (suc k) f e = absurd (omega arith)

-- the reply says how many lines are written
lines-told : (a : Answer) (day : Day) (report : List Line) → take (reply_of a day).films report ≡ lines_in a report
lines-told (Refused k) day report = refl
lines-told Opened day report = refl
lines-told (Booked s) day report = refl
lines-told Dropped day report = refl
lines-told (Played n c) day report = refl

-- a booking and a drop write no report; play leaves the records and the sheet
module _ (S : Setting) (d : State) where
  book-report : (q : Request) → (book_call S d q).report ≡ []
  unfolding book_call
  book-report q = go (refusal (book_questions S d q)) (start_of S d q)
    where
      go : (n : ℕ) (f : Found) → (book_with S d q n f).report ≡ []
      go zero nowhere = refl
      go zero (at s) = refl
      go (suc k) f = refl

  drop-report : (name : ℕ) → (drop_call S d name).report ≡ []
  unfolding drop_call
  drop-report name = go (refusal (drop_questions S d name))
    where
      go : (n : ℕ) → (drop_with S d name n).report ≡ []
      go zero = refl
      go (suc k) = refl

  play-left : (report : List Line)
      → lent_of S (play_call S d report).state
      ≡ record { day = day_of S (play_call S d report).state; records = d.records; sheet = (lent_of S d).sheet }
  unfolding play_call
  play-left report = go (refusal (play_questions S d (length report)))
    where
      go : (n : ℕ) → lent_of S (play_with S d report n).state ≡ record { day = day_of S (play_with S d report n).state; records = d.records; sheet = (lent_of S d).sheet }
      go zero = refl
      go (suc k) = refl

module _ (file : List ℕ) (o : Opening) where
  abbrev S : Setting
  S = setting_in file o

  -- the list of records is as long as the state says
  abbrev Whole : State → Type 0
  Whole d = state_in (lent_of S d) ≡ d

  -- what a call's contract says, on the state d
  record One (d : State) (c : Made) : Type 0 where
    replied : reply_in c ≡ reply_of (call S d (call_in c)).answer (day_of S (call S d (call_in c)).state)
    reported : report_in c ≡ (call S d (call_in c)).report
    left : left_by (lent_of S d) c ≡ lent_of S (call S d (call_in c)).state

  one : (d : State) → Whole d → (c : Made) → Meets file (lent_of S d) c → One d c
  one d w (books q z list s) k =
      let l : Leaves S (book_call S d q) z list s.opens s.reserves s.helds =
      subst (λ (e : State). Leaves S (book_call S e q) z list s.opens s.reserves s.helds) w k.leaves in
      record { replied = l.reply; reported = sym (book-report S d q); left = left_is S (book_call S d q) z list s l }
  one d w (drops name z list s) k =
      let l : Leaves S (drop_call S d name) z list s.opens s.reserves s.helds =
      subst (λ (e : State). Leaves S (drop_call S e name) z list s.opens s.reserves s.helds) w k in
      record { replied = l.reply; reported = sym (drop-report S d name); left = left_is S (drop_call S d name) z list s l }
  one d w (plays report z report') k =
      let l : Reports S (play_call S d report) z report' =
      subst (λ (e : State). Reports S (play_call S e report) z report') w (k d.opens d.reserves d.helds) in
      let y : z.day ≡ day_of S (play_call S d report).state =
      ap (λ (t : Reply). t.day) l.reply ∙ reply-day (play_call S d report).answer (day_of S (play_call S d report).state) in
      record {
        replied = l.reply;
        reported = l.lines;
        left = ap (λ (t : Day). record { day = t; records = d.records; sheet = (lent_of S d).sheet }) y ∙ sym (play-left S d report);
      }

  -- ---- a list of calls

  -- the calls of the first list, and those after them
  in-turn : (bs cs : List Made) (l : Lent) → InTurn file l (bs ++ cs) → InTurn file l bs × InTurn file (left_after l bs) cs
  in-turn [] cs l k = (tt, k)
  in-turn (b ∷ bs) cs l k = let i = in-turn bs cs (left_by l b) k.1 in ((k.0, i.0), i.1)

  module _ (before : Lent) (accepted : Accepted S (state_in before)) (fits : (bs : List Booking) → Dec (Fits S bs)) where
    abbrev L : State
    L = state_in before

    abbrev N : ℕ
    N = length before.records

    -- the list of records keeps its length
    whole : (s : PlainDay) (m : ℕ) → Good S L fits accepted s m → Whole (expected S L s m)
    whole s m g =
        let bs = s.standing in
        let zeros : List Booking = replicate (m - length bs) no_booking in
        let e : length (bs ++ (zeros ++ drop m before.records)) ≡ N =
        length-append bs (zeros ++ drop m before.records)
        ∙ omega (arith, length-append zeros (drop m before.records), length-replicate (m - length bs) no_booking, length-drop m before.records, g.most, g.room) in
        let d = expected S L s m in
        ap (λ (n : ℕ). state_of (day_of S d) d.records n d.opens d.reserves d.helds) e

    -- what the calls said and left is what the model's calls say and leave, and the plain day
    record Linked (d : State) (s : PlainDay) (l : Lent) (cs : List Made) : Type 0 where
      replied : map reply_in cs ≡ plain_replies S N fits s (map arguments_of (map call_in cs))
      reported : map report_in cs ≡ reports S d (map call_in cs)
      ended : left_after l cs ≡ lent_of S (after_all S d (map call_in cs))
      lines : map lines_made cs ≡ lines_of_all S d (map call_in cs)
      named : (n : ℕ) → lines_named n l cs ≡ lines_for S n d (map call_in cs)

    link : (cs : List Made) (s : PlainDay) (m : ℕ) → Good S L fits accepted s m → (l : Lent) → l ≡ lent_of S (expected S L s m)
        → InTurn file l cs → Linked (expected S L s m) s l cs
    link [] s m g l e k = record { replied = refl; reported = refl; ended = e; lines = refl; named = λ n. refl }
    link (c ∷ cs) s m g l e k =
        let d = expected S L s m in
        let x = one d (whole s m g) c (subst (λ (t : Lent). Meets file t c) e k.0) in
        let v = step S L fits accepted s m g (call_in c) in
        let s' = (plain_call S N fits s (arguments_of (call_in c))).after in
        let d' = (call S d (call_in c)).state in
        let left : left_by l c ≡ lent_of S d' = ap (λ (t : Lent). left_by t c) e ∙ x.left in
        let i : Linked d' s' (left_by l c) cs =
        subst (λ (t : State). Linked t s' (left_by l c) cs) (sym v.state) (link cs s' _ v.good (left_by l c) (left ∙ ap (lent_of S) v.state) k.1) in
        let wrote : lines_made c ≡ call_lines S d (call_in c) =
        ap₂ (λ (z : Reply) (r : List Line). take z.films r) x.replied x.reported
        ∙ lines-told (call S d (call_in c)).answer (day_of S d') (call S d (call_in c)).report in
        record {
          replied = ap₂ (λ (z : Reply) (zs : List Reply). z ∷ zs) (x.replied ∙ ap₂ reply_of v.answer (ap (day_of S) v.state)) i.replied;
          reported = ap₂ (λ (r : List Line) (rs : List (List Line)). r ∷ rs) x.reported i.reported;
          ended = i.ended;
          lines = ap₂ (λ (r : List Line) (rs : List (List Line)). r ∷ rs) wrote i.lines;
          named = λ n.
              ap₂ (λ (a b : List Line). a ++ b) (ap (of_name n) wrote)
              (ap₂ (λ (t : Bool) (a : List Line). cond t a []) (ap (λ (t : Lent). has_name n (standing_in t)) left) (i.named n));
        }

    -- ---- from the opening on: `first` is what the first of the calls is lent

    module _ (X : Safe S (expected S L at_first 0)) (first : Lent) (e : first ≡ lent_of S (expected S L at_first 0)) where
      linked : (cs : List Made) → InTurn file first cs → Linked (expected S L at_first 0) at_first first cs
      linked cs = link cs at_first 0 (good-first S L fits accepted) first e

      plain : (cs : List Made) → InTurn file first cs → PlainAsMade S before first cs fits
      plain cs turn =
          let calls = map call_in cs in
          let k = linked cs turn in
          let r = runs S L fits accepted calls at_first 0 (good-first S L fits accepted) in
          let taken = ever_taken S N fits at_first (map arguments_of calls) in
          let y : max 0 taken ≡ taken = omega arith in
          record {
            replied = k.replied;
            reported = k.reported ∙ r.reported;
            ended = k.ended ∙ ap (lent_of S) (r.ended ∙ ap (expected S L (plain_after S N fits at_first (map arguments_of calls))) y);
          }

      kept-after : (cs : List Made) → InTurn file first cs → let bs = standing_in (left_after first cs) in Kept S bs (map (schedule_of S) bs)
      kept-after cs turn =
          subst (λ (bs : List Booking). Kept S bs (map (schedule_of S) bs)) (sym (ap standing_in (linked cs turn).ended)) (X.kept (map call_in cs))

      -- a booking that is accepted after the calls `earlier`, and the calls `later`
      unread-after : (earlier later : List Made) (q : Request) (z : Reply) (list : List Booking) (s : Sheet)
          → InTurn file first (earlier ++ (books q z list s ∷ later)) → z.refusal ≡ 0 → (k : ℕ)
          → let lines = lines_named q.name (left_by (left_after first earlier) (books q z list s)) later in
          sum_send (take k lines) ≤ sum_read (take k lines)
      unread-after earlier later q z list sheet turn accepts k =
          let c = books q z list sheet in
          let cs = map call_in earlier in
          let both = in-turn earlier (c ∷ later) first turn in
          let r = runs S L fits accepted cs at_first 0 (good-first S L fits accepted) in
          let s = plain_after S N fits at_first (map arguments_of cs) in
          let m = max 0 (ever_taken S N fits at_first (map arguments_of cs)) in
          let d = expected S L s m in
          let lends : left_after first earlier ≡ lent_of S d = (linked earlier both.0).ended ∙ ap (lent_of S) r.ended in
          let x = one d (whole s m r.good) c (subst (λ (t : Lent). Meets file t c) lends both.1.0) in
          let v = step S L fits accepted s m r.good (booking q) in
          let left : left_by (left_after first earlier) c ≡ lent_of S (call S d (booking q)).state = ap (λ (t : Lent). left_by t c) lends ∙ x.left in
          let i = link later (plain_call S N fits s (arguments_of (booking q))).after _ v.good (left_by (left_after first earlier) c) (left ∙ ap (lent_of S) v.state) both.1.1 in
          let same : call S (after_all S (expected S L at_first 0) cs) (booking q) ≡ call S d (booking q) = ap (λ (t : State). call S t (booking q)) r.ended in
          let said = booked-start S d q (sym (reply-number (book_call S d q).answer (day_of S (book_call S d q).state)) ∙ ap (λ (t : Reply). t.refusal) (sym x.replied) ∙ accepts) in
          let lines : lines_named q.name (left_by (left_after first earlier) c) later
          ≡ lines_for S q.name (call S (after_all S (expected S L at_first 0) cs) (booking q)).state (map call_in later) =
          i.named q.name
          ∙ ap (λ (t : State). lines_for S q.name t (map call_in later)) (sym v.state)
          ∙ ap (λ (t : Outcome). lines_for S q.name t.state (map call_in later)) (sym same) in
          rw lines (X.unread cs q said.0 (ap (λ (t : Outcome). t.answer) same ∙ said.1) (map call_in later) k)

      safe-made : (cs : List Made) → InTurn file first cs → SafeAsMade S first cs
      safe-made cs turn =
          record {
            kept = λ earlier later split. kept-after earlier (in-turn earlier later first (subst (InTurn file first) split turn)).0;
            unread = λ earlier later q z list s split. unread-after earlier later q z list s (subst (InTurn file first) split turn);
            within = subst (EachWithin S) (sym (linked cs turn).lines) (X.within (map call_in cs));
          }

-- ---- the opening, and the claim

module _ (file : List ℕ) (before : Lent) (o : Opening) (cs : List Made) (made : DayMade file before o cs) where
  abbrev setting : Setting
  setting = setting_in file o

  abbrev lent : State
  lent = state_in before

  opened-held : refusal (open_questions setting lent) ≡ 0
  opened-held =
      let w = made.opens (verdict file) (films_of file) before.records (length before.records) in
      let a = (open_call setting lent).answer in
      sym (open-number setting lent) ∙ (sym (reply-number a (day_opened setting lent before.day)) ∙ ap (λ (t : Reply). t.refusal) (sym w.reply) ∙ made.accepted)

  -- what it leaves is what the plain day expects at first
  opened-left : opened_by before o ≡ lent_of setting (expected setting lent at_first 0)
  opened-left =
      let w = made.opens (verdict file) (films_of file) before.records (length before.records) in
      let x = opened-expected setting lent (opened-said setting lent opened-held) in
      let day : o.reply.day ≡ day_of setting (expected setting lent at_first 0) =
      ap (λ (t : Reply). t.day) w.reply ∙ reply-day (open_call setting lent).answer (day_opened setting lent before.day) ∙ ap (opened_day setting lent before.day) opened-held
      ∙ ap (day_of setting) x in
      let eo : o.sheet.opens ≡ (expected setting lent at_first 0).opens = w.opens ∙ ap (λ (t : State). t.opens) x in
      let er : o.sheet.reserves ≡ (expected setting lent at_first 0).reserves = w.reserves ∙ ap (λ (t : State). t.reserves) x in
      let eh : o.sheet.helds ≡ (expected setting lent at_first 0).helds = w.helds ∙ ap (λ (t : State). t.helds) x in
      λ i. record { day = day i; records = before.records; sheet = record { opens = eo i; reserves = er i; helds = eh i } }

  room : min (length before.records) max_bookings ≤ length before.records
  room = omega arith

  accepts : Accepted setting lent
  accepts = opened-accepted setting lent loss-rising room (opened-said setting lent opened-held)

  safe-first : Safe setting (expected setting lent at_first 0)
  safe-first =
      let said = opened-said setting lent opened-held in
      subst (Safe setting) (opened-expected setting lent said) (safe setting lent loss-rising room said)

pub as-made : AsMade
as-made file before o cs made =
    let a = accepts file before o cs made in
    let X = safe-first file before o cs made in
    let e = opened-left file before o cs made in
    let first = opened_by before o in
    (λ fits. plain file o before a fits X first e cs made.calls, safe-made file o before a (dec_fits (setting_in file o)) X first e cs made.calls)
