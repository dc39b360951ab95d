-- The number of play's questions, and a round that is refused or played. Assumes nothing.
use Rattle.std.specs.Prelude.{◌≡◌, refl, List, [], ◌∷◌, ℕ, zero, suc, ◌+◌, length, take, eqb}
use Rattle.std.proofs.Common.{sym, ap, ap₂, ◌∙◌, arith, add-one, le-leb}
use Rattle.std.specs.Int.Count.{ones}
use Rattle.limits.specs.Refusals.{number_of, day_rounds, day_limits, unsound}
use Rattle.limits.specs.declared.refusals.Refusal.{Refusal}
use Rattle.limits.proofs.Numbers.{number-not_zero}
use Rattle.laws.specs.Questions.{Question, refusal, refusal-append, or_else, or_else-first, Numbered}
use Rattle.films.specs.Questions.{verdict}
use Rattle.model.specs.Day.{Setting}
use Rattle.model.specs.Report.{lines_of, written}
use Rattle.model.specs.Questions.{play_own}
use Rattle.model.specs.Calls.{Outcome, at_round, day_in_range, rounds_in_range, limits_in_range, sound, play_questions, play_with, play_call, cabs_joined}
use Rattle.model.specs.Code.{state_of, day_of}
use Rattle.model.proofs.PlayLaws.{lines-count}
use Rattle.model.specs.declared.Booking.{Booking}
use Rattle.model.specs.declared.Desk.{Desk}
use Rattle.model.specs.declared.Line.{Line}
use Rattle.model.specs.declared.Answer.TheVariants.{Refused, Played}
use Rattle.questions.specs.Given.{setting_at}
use Rattle.questions.specs.Numbers.{rounds_hold, day_holds, limits_hold, sheet_holds, sound_holds, standing_asks}
use Rattle.questions.specs.Standing.{standing-held, verdict-numbered}
use Rattle.playing.specs.Contract.{played, Plays}
use Rattle.playing.specs.Questions.{own_asks}
use Rattle.playing.specs.Ready.{Ready}

module _ (f : List ℕ) (desk : Desk) (room : ℕ) where
  abbrev S : Setting
  S = setting_at f desk.day

  abbrev bs : List Booking
  bs = take desk.day.count desk.rows

  -- the file's, 14, 15 and 16
  abbrev first : List Question
  first =
      (eqb (verdict f) 0, verdict f)
      ∷ (day_holds desk.day, day_rounds)
      ∷ (limits_hold desk.day.disk desk.day.memory, day_limits)
      ∷ (sound_holds f desk, unsound)
      ∷ []

  -- what every call asks, with a sheet that is long enough
  abbrev pub standing_number : ℕ
  standing_number = refusal (standing_asks f desk desk.day.rounds desk.day.rounds desk.day.rounds)

  -- the number of play's questions
  abbrev pub play_number : ℕ
  play_number = refusal (play_questions S (state_of desk.day desk.rows desk.places [] [] []) room)

  first-standing : refusal first ≡ standing_number
  unfolding standing_asks sheet_holds
  first-standing = rw (le-leb desk.day.rounds desk.day.rounds (omega arith))

  numbered : Numbered first
  numbered = (verdict-numbered (verdict f), (λ e. omega arith, (λ e. omega arith, (λ e. omega arith, tt))))

  asked-after : play_number ≡ or_else standing_number (refusal (play_own S bs desk.day.now room))
  unfolding play_questions day_in_range rounds_in_range limits_in_range sound day_holds rounds_hold limits_hold sound_holds
  asked-after =
      refusal-append first (play_own S bs desk.day.now room) numbered
      ∙ ap (λ (n : ℕ). or_else n (refusal (play_own S bs desk.day.now room))) first-standing

  -- a number of the questions up to 16 stands
  pub standing-first : (n : ℕ) → n ≡ standing_number → (n ≡ 0 → ⊥) → play_number ≡ n
  standing-first n e h =
      asked-after ∙ or_else-first standing_number (refusal (play_own S bs desk.day.now room)) (λ z. h (e ∙ z)) ∙ sym e

  -- with none of the questions up to 16, the bookings stand
  pub standing-ready : standing_number ≡ 0 → Ready f desk
  standing-ready e =
      let s = standing-held f desk desk.day.rounds desk.day.rounds desk.day.rounds e in
      record { few = s.few; short = s.rounds; today = s.today; sound = s.sound }

  -- and 23 and 11 decide
  pub own-after : (films : ℕ) → standing_number ≡ 0 → films ≡ length (lines_of S desk.day.now bs)
      → play_number ≡ refusal (own_asks desk.day.now desk.day.rounds films room)
  unfolding play_own own_asks
  own-after films e o =
      asked-after
      ∙ ap (λ (m : ℕ). or_else m (refusal (play_own S bs desk.day.now room))) e
      ∙ rw (o ∙ lines-count S desk.day.now bs)

  -- the sheet has no part in the questions
  asked_of : (opens reserves helds : List ℕ) (report : List Line) → length report ≡ room
      → refusal (play_questions S (state_of desk.day desk.rows desk.places opens reserves helds) (length report)) ≡ play_number
  unfolding play_questions day_in_range sound
  asked_of opens reserves helds report l =
      ap (λ (m : ℕ). refusal (play_questions S (state_of desk.day desk.rows desk.places [] [] []) m)) l

  module _ (number : ℕ) (e : play_number ≡ number) where
    called : (opens reserves helds : List ℕ) (report : List Line) → length report ≡ room
        → played f desk opens reserves helds report ≡ play_with S (state_of desk.day desk.rows desk.places opens reserves helds) report number
    unfolding play_call
    called opens reserves helds report l =
        ap (play_with S (state_of desk.day desk.rows desk.places opens reserves helds) report) (asked_of opens reserves helds report l ∙ e)

  -- a refusal: no line, and nothing changes
  pub plays-refused : (k : ℕ) → play_number ≡ k → (k ≡ 0 → ⊥) → Plays f desk room (Refused k) [] desk
  plays-refused zero e h = absurd (h refl)
  plays-refused (suc k) e h =
      record {
        answer = λ opens reserves helds report l. ap (λ (o : Outcome). o.answer) (called (suc k) e opens reserves helds report l);
        report = λ opens reserves helds report l. ap (λ (o : Outcome). o.report) (called (suc k) e opens reserves helds report l);
        day = λ opens reserves helds report l. ap (λ (o : Outcome). day_of S o.state) (called (suc k) e opens reserves helds report l);
        state = λ opens reserves helds report l. ap (λ (o : Outcome). o.state) (called (suc k) e opens reserves helds report l);
        lines = refl;
        count = refl;
        rows = refl;
        places = refl;
      }

  -- by a question up to 16
  pub standing-refused : (r : Refusal) → number_of r ≡ standing_number → Plays f desk room (Refused (number_of r)) [] desk
  standing-refused r e = plays-refused (number_of r) (standing-first (number_of r) e (number-not_zero r)) (number-not_zero r)

  module _ (none : standing_number ≡ 0) (lines : List Line) (are : lines ≡ lines_of S desk.day.now bs) where
    -- by 23 or 11
    pub own-refused : (r : Refusal) → number_of r ≡ refusal (own_asks desk.day.now desk.day.rounds (length lines) room)
        → Plays f desk room (Refused (number_of r)) [] desk
    own-refused r e = plays-refused (number_of r) (own-after (length lines) none (ap length are) ∙ sym e) (number-not_zero r)

    -- a played round: its lines, and `now` rises by one
    pub plays-accepted : (cabs : ℕ) → 0 ≡ refusal (own_asks desk.day.now desk.day.rounds (length lines) room)
        → cabs ≡ ones (cabs_joined S desk.day.now 0 bs)
        → Plays f desk room (Played (length lines) cabs) lines
        (record {
          day =
              record {
                rounds = desk.day.rounds;
                disk = desk.day.disk;
                memory = desk.day.memory;
                now = desk.day.now + 1;
                count = desk.day.count;
              };
          rows = desk.rows;
          places = desk.places;
        })
    plays-accepted cabs o j =
        let e : play_number ≡ 0 = own-after (length lines) none (ap length are) ∙ sym o in
        let next : suc desk.day.now ≡ desk.day.now + 1 = sym (add-one desk.day.now) in
        record {
          answer = λ opens reserves helds report l.
              ap (λ (o : Outcome). o.answer) (called 0 e opens reserves helds report l)
              ∙ ap₂ (λ (xs : List Line) (c : ℕ). Played (length xs) c) (sym are) (sym j);
          report = λ opens reserves helds report l.
              ap (λ (o : Outcome). o.report) (called 0 e opens reserves helds report l) ∙ ap (λ (xs : List Line). written xs report) (sym are);
          day = λ opens reserves helds report l.
              ap (λ (o : Outcome). day_of S o.state) (called 0 e opens reserves helds report l)
              ∙ ap (λ (m : ℕ). day_of S (at_round m (state_of desk.day desk.rows desk.places opens reserves helds))) next;
          state = λ opens reserves helds report l.
              ap (λ (o : Outcome). o.state) (called 0 e opens reserves helds report l)
              ∙ ap (λ (m : ℕ). at_round m (state_of desk.day desk.rows desk.places opens reserves helds)) next;
          lines = are;
          count = refl;
          rows = refl;
          places = refl;
        }
