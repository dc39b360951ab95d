-- Where a session stands by the model and by the plain day, and that a command keeps the two together. Assumes nothing.
use Rattle.std.specs.Prelude.{◌≡◌, Bool, true, false, cond, eqb, drop, replicate, Option, Some, None}
use Rattle.std.proofs.Math.Path.{refl, sym, ap, subst}
use Rattle.std.proofs.Common.{ap₂, ◌∙◌, arith, length-append, length-drop}
use mathlib.Core.List.{List, [], ◌++◌}
use Prim.Native.Nat.{ℕ, zero, suc, ◌-◌, ◌≤◌, min, max}
use Rattle.std.proofs.Math.ListN.{length, take}
use Rattle.std.proofs.lemmas.List.{length-replicate}
use Rattle.std.proofs.lemmas.Bool.{eqb-false}
use Rattle.limits.specs.Bounds.{max_bookings, hall_rounds, hall_places}
use Rattle.limits.specs.Refusals.{day_rounds, command_form}
use Rattle.laws.specs.Questions.{refusal}
use Rattle.films.specs.Questions.{verdict}
use Rattle.model.specs.Day.{Setting, State}
use Rattle.model.specs.Fit.{Fits, Found}
use Rattle.model.specs.Calls as C
use Rattle.model.specs.Calls.{Outcome, Call, call, rounds_in_range, day_in_range, open_questions, open_with, open_call, book_questions, start_of, book_with, book_call, drop_questions, drop_with, drop_call, play_questions, play_with, play_call}
use Rattle.model.specs.Code.{day_of, opened_day}
use Rattle.model.specs.PlainDay.{PlainDay, PlainOutcome, at_first, plain_call}
use Rattle.model.specs.Expected.{arguments_of, lent_report, other_places, expected}
use Rattle.model.specs.Loss.{loss-rising}
use Rattle.model.specs.Steps.{Accepted, Good}
use Rattle.model.proofs.Steps.{step}
use Rattle.model.proofs.Runs.{good-first, opened-accepted, opened-expected}
use Rattle.model.specs.declared.Booking.{Booking}
use Rattle.model.specs.declared.Request.{Request}
use Rattle.model.specs.declared.Day.{Day}
use Rattle.model.specs.declared.Answer.{Answer}
use Rattle.model.specs.declared.Answer.TheVariants.{Refused, Opened}
use Rattle.questions.specs.Given.{setting_at}
use Rattle.opening.specs.Contract.{asked}
use Rattle.playing.specs.Contract.{lines_in}
use Rattle.commands.specs.declared.Command.{Command}
use Rattle.commands.specs.declared.Command.TheVariants.{Open, Book, Drop, Play}
use Rattle.text.specs.Text.{answer_text, report_text}
use Rattle.console.specs.Session.{SessionState, start_desk, at_start, lent_by, left_in, blank_report, outcome_of, day_after, state_after, name_in, lines_told, text_of}
use Rattle.console.specs.PlainSession.{PlainSession, unopened, on_day, PlainTold, round_of, refused_in, open_number, plain_open, number_before, plain_command, plain_text}
use Rattle.console.specs.PlainParts.{Places}
use Rattle.console.proofs.PlainParts.{plain-count, told_same, start-places, worked-places, open-number, open-short}

-- ---- Where a session stands

module _ (file : List ℕ) (fits : (S : Setting) (bs : List Booking) → Dec (Fits S bs)) where
  -- a day's state as the session has it
  abbrev pub session_of : Day → State → SessionState
  session_of day d = left_in (day_of (setting_at file day) d) d

  -- on a plain day: everything is as it expects, over what stood when the day was opened
  pub record OnDay (s : SessionState) (day : Day) (p : PlainDay) : Type 0 where
    pub first : SessionState
    pub places : Places first
    pub short : day.rounds ≤ hall_rounds
    pub accepted : Accepted (setting_at file day) (lent_by first)
    pub taken : ℕ
    pub good : Good (setting_at file day) (lent_by first) (fits (setting_at file day)) accepted p taken
    pub state : s ≡ session_of day (expected (setting_at file day) (lent_by first) p taken)

  abbrev pub Stands : SessionState → PlainSession → Type 0
  Stands s unopened = s ≡ at_start
  Stands s (on_day day p) = OnDay s day p

  stands-places : (s : SessionState) (p : PlainSession) → Stands s p → Places s
  stands-places s unopened e = rw e start-places
  stands-places s (on_day day p) w =
      let bs = p.standing in
      let old = w.first.rows in
      let T = day.rounds in
      rw w.state
      (record {
        rows =
            omega (
              arith,
              w.good.most,
              w.good.room,
              w.places.rows,
              length-append bs (other_places (length bs) w.taken old),
              length-append (replicate (w.taken - length bs) C.no_booking) (drop w.taken old),
              length-replicate {A = Booking} (w.taken - length bs) C.no_booking,
              length-drop w.taken old,
            );
        opens = worked-places T _ w.first.opens w.short w.places.opens;
        reserves = worked-places T _ w.first.reserves w.short w.places.reserves;
        helds = worked-places T _ w.first.helds w.short w.places.helds;
      })

  stands-round : (s : SessionState) (p : PlainSession) → Stands s p → s.day.now ≡ round_of p
  stands-round s unopened e = ap (λ (x : SessionState). x.day.now) e
  stands-round s (on_day day p) w = ap (λ (x : SessionState). x.day.now) w.state

  -- ---- A command

  pub record Keeps (s : SessionState) (p : PlainSession) (c : Option Command) : Type 0 where
    pub text : text_of file s c ≡ plain_text file fits p c
    pub after : Stands (state_after file s c) (plain_command file fits p c).after

  text_same : (s : SessionState) (p : PlainSession) (c : Option Command) → Stands s p
      → (outcome_of file s c).answer ≡ (plain_command file fits p c).answer
      → lines_told (outcome_of file s c) ≡ (plain_command file fits p c).lines
      → text_of file s c ≡ plain_text file fits p c
  text_same s p c w a l = λ i. answer_text (name_in c) (stands-round s p w i) (a i) ++ report_text (l i)

  -- refused: nothing changes
  refused-keeps : (s : SessionState) (p : PlainSession) (c : Option Command) (k : ℕ) → Stands s p → (outcome_of file s c).answer ≡ Refused k
      → (outcome_of file s c).state ≡ lent_by s → day_after file s c ≡ s.day → plain_command file fits p c ≡ refused_in p k → Keeps s p c
  refused-keeps s p c k w a d y e =
      let none : lines_told (outcome_of file s c) ≡ [] = ap (λ (x : Answer). take (lines_in x) (outcome_of file s c).report) a in
      let same : state_after file s c ≡ s = ap₂ left_in y d in
      record {
        text = text_same s p c w (a ∙ sym (ap (λ (o : PlainTold). o.answer) e)) (none ∙ sym (ap (λ (o : PlainTold). o.lines) e));
        after = rw (same, e) w;
      }

  bad-keeps : (s : SessionState) (p : PlainSession) → Stands s p → Keeps s p None
  unfolding outcome_of day_after
  bad-keeps s p w = refused-keeps s p None command_form w refl refl refl refl

  module _ (s : SessionState) (p : PlainSession) (rounds disk memory : ℕ) (w : Stands s p) where
    abbrev day : Day
    day = asked rounds disk memory

    abbrev S : Setting
    S = setting_at file day

    abbrev lent : State
    lent = lent_by s

    abbrev opening : Option Command
    opening = Some (Open rounds disk memory)

    open_by : (n : ℕ) → open_number S ≡ n → refusal (open_questions S lent) ≡ n → Keeps s p opening
    unfolding outcome_of day_after open_call
    open_by (suc k) e asks =
        refused-keeps s p opening (suc k) w
        (ap (λ (n : ℕ). (open_with S lent n).answer) asks)
        (ap (λ (n : ℕ). (open_with S lent n).state) asks)
        (ap (opened_day S lent s.day) asks)
        (ap (plain_open p day) e)
    open_by zero e asks =
        let answered : (open_call S lent).answer ≡ Opened = ap (λ (n : ℕ). (open_with S lent n).answer) asks in
        let room : min hall_places max_bookings ≤ length s.rows = omega (arith, (stands-places s p w).rows) in
        let accepted = opened-accepted S lent loss-rising room answered in
        let left : (open_call S lent).state ≡ expected S lent at_first 0 = opened-expected S lent answered in
        let today : day_after file s opening ≡ day_of S (open_call S lent).state = ap (opened_day S lent s.day) asks in
        let told : plain_command file fits p opening ≡ plain_open p day 0 = ap (plain_open p day) e in
        let none : lines_told (open_call S lent) ≡ [] = ap (λ (x : Answer). take (lines_in x) (open_call S lent).report) answered in
        record {
          text = text_same s p opening w (answered ∙ sym (ap (λ (o : PlainTold). o.answer) told)) (none ∙ sym (ap (λ (o : PlainTold). o.lines) told));
          after =
              subst (λ (o : PlainTold). Stands (state_after file s opening) o.after) (sym told)
              (record {
                first = s;
                places = stands-places s p w;
                short = open-short S e;
                accepted = accepted;
                taken = 0;
                good = good-first S lent (fits S) accepted;
                state = ap (λ (y : Day). left_in y (open_call S lent).state) today ∙ ap (session_of day) left;
              });
        }

    open-keeps : Keeps s p opening
    open-keeps = open_by (open_number S) refl (open-number S s (stands-places s p w))

  -- ---- A call on a day

  abbrev told_on : Day → PlainOutcome → PlainTold
  told_on day o = record { answer = o.answer; lines = o.lines; after = on_day day o.after }

  call-keeps : (s : SessionState) (day : Day) (p : PlainDay) (w : OnDay s day p) (c : Option Command) (k : Call)
      → let S = setting_at file day in
      let E = expected S (lent_by w.first) p w.taken in
      outcome_of file (session_of day E) c ≡ call S E k → day_after file (session_of day E) c ≡ day_of S (call S E k).state
      → plain_command file fits (on_day day p) c ≡ told_on day (plain_call S hall_places (fits S) p (arguments_of k)) → Keeps s (on_day day p) c
  call-keeps s day p w c k o y t =
      let S = setting_at file day in
      let lent = lent_by w.first in
      let E = expected S lent p w.taken in
      let v = step S lent (fits S) w.accepted p w.taken w.good k in
      let e = plain_call S hall_places (fits S) p (arguments_of k) in
      let here : OnDay (session_of day E) day p =
      record {
        first = w.first;
        places = w.places;
        short = w.short;
        accepted = w.accepted;
        taken = w.taken;
        good = w.good;
        state = refl;
      } in
      let told = told_same (call S E k) e (lent_report k) v.answer v.report (plain-count S (fits S) p (arguments_of k)) in
      subst (λ (x : SessionState). Keeps x (on_day day p) c) (sym w.state)
      (record {
        text =
            text_same (session_of day E) (on_day day p) c here
            (ap (λ (x : Outcome). x.answer) o ∙ v.answer ∙ sym (ap (λ (x : PlainTold). x.answer) t))
            (ap lines_told o ∙ told ∙ sym (ap (λ (x : PlainTold). x.lines) t));
        after =
            subst (λ (x : PlainTold). Stands (state_after file (session_of day E) c) x.after) (sym t)
            (record {
              first = w.first;
              places = w.places;
              short = w.short;
              accepted = w.accepted;
              taken = max w.taken (length e.after.standing);
              good = v.good;
              state = ap₂ left_in y (ap (λ (x : Outcome). x.state) o) ∙ ap (session_of day) v.state;
            });
      })

  -- ---- A call before OPEN

  abbrev no_setting : Setting
  no_setting = setting_at file start_desk.day

  before-some : number_before file fits ≡ 0 → ⊥
  before-some = go (eqb (verdict file) 0) refl
    where
      go : (t : Bool) → eqb (verdict file) 0 ≡ t → cond t day_rounds (verdict file) ≡ 0 → ⊥
      go true e z = omega arith
      go false e z = eqb-false (verdict file) 0 e z

  -- it is refused with this number, and changes nothing
  record Refuses (n : ℕ) (o : Outcome) : Type 0 where
    answer : o.answer ≡ Refused n
    state : o.state ≡ lent_by at_start

  before-keeps : (s : SessionState) (c : Option Command) → s ≡ at_start → Refuses (number_before file fits) (outcome_of file at_start c)
      → day_after file at_start c ≡ day_of no_setting (outcome_of file at_start c).state
      → plain_command file fits unopened c ≡ refused_in unopened (number_before file fits) → Keeps s unopened c
  before-keeps s c w r y e =
      subst (λ (x : SessionState). Keeps x unopened c) (sym w)
      (refused-keeps at_start unopened c (number_before file fits) refl r.answer r.state (y ∙ ap (day_of no_setting) r.state) e)

  book-before : (q : Request) → Refuses (number_before file fits) (book_call no_setting (lent_by at_start) q)
  unfolding book_call book_questions day_in_range rounds_in_range
  book-before q = go (number_before file fits) before-some (start_of no_setting (lent_by at_start) q)
    where
      go : (n : ℕ) → (n ≡ 0 → ⊥) → (x : Found) → Refuses n (book_with no_setting (lent_by at_start) q n x)
      go zero h x = absurd (h refl)
      go (suc k) h x = record { answer = refl; state = refl }

  drop-before : (name : ℕ) → Refuses (number_before file fits) (drop_call no_setting (lent_by at_start) name)
  unfolding drop_call drop_questions day_in_range rounds_in_range
  drop-before name = go (number_before file fits) before-some
    where
      go : (n : ℕ) → (n ≡ 0 → ⊥) → Refuses n (drop_with no_setting (lent_by at_start) name n)
      go zero h = absurd (h refl)
      go (suc k) h = record { answer = refl; state = refl }

  play-before : Refuses (number_before file fits) (play_call no_setting (lent_by at_start) blank_report)
  unfolding play_call play_questions day_in_range rounds_in_range
  play-before = go (number_before file fits) before-some
    where
      go : (n : ℕ) → (n ≡ 0 → ⊥) → Refuses n (play_with no_setting (lent_by at_start) blank_report n)
      go zero h = absurd (h refl)
      go (suc k) h = record { answer = refl; state = refl }

  -- ---- Any command

  pub keeps : (s : SessionState) (p : PlainSession) (c : Option Command) → Stands s p → Keeps s p c
  unfolding outcome_of day_after
  keeps s p (Some (Open rounds disk memory)) w = open-keeps s p rounds disk memory w
  keeps s p None w = bad-keeps s p w
  keeps s unopened (Some (Book q)) w = before-keeps s (Some (Book q)) w (book-before q) refl refl
  keeps s unopened (Some (Drop name)) w = before-keeps s (Some (Drop name)) w (drop-before name) refl refl
  keeps s unopened (Some Play) w = before-keeps s (Some Play) w play-before refl refl
  keeps s (on_day day p) (Some (Book q)) w = call-keeps s day p w (Some (Book q)) (C.booking q) refl refl refl
  keeps s (on_day day p) (Some (Drop name)) w = call-keeps s day p w (Some (Drop name)) (C.dropping name) refl refl refl
  keeps s (on_day day p) (Some Play) w = call-keeps s day p w (Some Play) (C.playing blank_report) refl refl refl
