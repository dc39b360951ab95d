-- A replay by its opening: refused, it changes nothing; accepted, the run that follows is the plain day's. Assumes nothing.
use Rattle.std.specs.Prelude.{◌≡◌, refl, Ok, Err, List, length}
use Rattle.std.specs.Prelude as std
use Rattle.std.proofs.Common.{sym, ap₂, ◌∙◌, subst, arith}
use Rattle.std.proofs.Math.Path.{ap}
use Prim.Native.Nat.{ℕ, zero, suc, ◌<◌, ◌≤◌, min}
use Rattle.laws.specs.Questions.{refusal}
use Rattle.limits.specs.Bounds.{max_bookings}
use Rattle.films.specs.Layout.{Film}
use Rattle.films.specs.Questions.{verdict}
use Rattle.films.specs.Decode.{films_of}
use Rattle.loss.specs.Loss.{loss_at}
use Rattle.loss.proofs.Rising.{loss-rising}
use Rattle.model.specs.Day.{Setting, State}
use Rattle.model.specs.Fit.{Fits}
use Rattle.model.specs.Calls.{open_questions, open_with, open_call}
use Rattle.model.specs.Answers.{number_of}
use Rattle.model.proofs.Order.{open-number}
use Rattle.model.specs.Code.{setting_of, state_of, state_in, day_of, opened_day}
use Rattle.model.specs.PlainDay.{at_first}
use Rattle.model.specs.Expected.{expected}
use Rattle.model.proofs.PlacesLaws.{same-state}
use Rattle.model.proofs.Runs.{opened-accepted, opened-expected}
use Rattle.model.specs.declared.Booking.{Booking}
use Rattle.model.specs.declared.Day.{Day}
use Rattle.model.specs.declared.Desk.{Desk}
use Rattle.model.specs.declared.Sheet.{Sheet}
use Rattle.model.specs.declared.Answer.{Answer}
use Rattle.model.specs.declared.Answer.TheVariants as A
use Rattle.opening.specs.Contract.{asked, Opens}
use Rattle.questions.specs.Given.{setting_at}
use Rattle.replay.specs.Journal.{entries}
use Rattle.replay.specs.Contract.{no_day, lent_to, Result, desk_in, Replays, result_by, result_of}
use Rattle.replay.specs.DeskRun.{desk_run, run_result}
use Rattle.replay.proofs.RunLaws.{run-result}
use Rattle.replay.specs.Pictured.{Pictured}
use Rattle.replay.proofs.Pictured.{pictured-first}
use Rattle.replay.specs.declared.Replayed.{Replayed}

module _ (f : List ℕ) (T D M : ℕ) (desk : Desk) (sheet : Sheet) (a : Answer) (day' : Day) (sheet' : Sheet) where
  abbrev S : Setting
  S = setting_at f (asked T D M)

  abbrev lent : State
  lent = lent_to desk.rows desk.places sheet.opens.now sheet.reserves.now sheet.helds.now

  abbrev after : Desk
  after = record { day = day'; rows = desk.rows; places = desk.places }

  -- `before` is the day that the code lends to the opening: the blank one
  module _ (before : Day) (zeros : before.rounds ≡ 0 × (before.disk ≡ 0 × (before.memory ≡ 0 × (before.now ≡ 0 × before.count ≡ 0))))
      (opened : (v : ℕ) (films : List Film) (rows : List Booking) (places : ℕ)
      → Opens (setting_of v films loss_at (asked T D M)) (state_of before rows places sheet.opens.now sheet.reserves.now sheet.helds.now) before a day' sheet') where
    is : Opens S lent no_day a day' sheet'
    is =
        let blank : before ≡ no_day =
        λ i. record { rounds = zeros.0 i; disk = zeros.1.0 i; memory = zeros.1.1.0 i; now = zeros.1.1.1.0 i; count = zeros.1.1.1.1 i } in
        subst (λ (d : Day). Opens S (state_of d desk.rows desk.places sheet.opens.now sheet.reserves.now sheet.helds.now) d a day' sheet') blank
        (opened (verdict f) (films_of f) desk.rows desk.places)

    number_is : refusal (open_questions S lent) ≡ number_of a
    number_is = sym (ap number_of is.answer ∙ open-number S lent)

    said : (n : ℕ) → refusal (open_questions S lent) ≡ n → a ≡ (open_with S lent n).answer
    unfolding open_call
    said n e = is.answer ∙ ap (λ (k : ℕ). (open_with S lent k).answer) e

    -- refused: the number is a refusal's
    pub refused-positive : (number : ℕ) → a ≡ A.Refused number → 0 < number
    refused-positive number e =
        let n : refusal (open_questions S lent) ≡ number = number_is ∙ ap number_of e in
        go number (sym (said number n) ∙ e)
      where
        go : (k : ℕ) → (open_with S lent k).answer ≡ A.Refused k → 0 < k
        go zero z = absurd cc
        go (suc k) z = omega arith

    -- .. and the day is still the blank one
    pub refused-day : (number : ℕ) → a ≡ A.Refused number → day' ≡ no_day
    refused-day number e =
        let n : refusal (open_questions S lent) ≡ number = number_is ∙ ap number_of e in
        go number n (sym (said number n) ∙ e)
      where
        go : (k : ℕ) → refusal (open_questions S lent) ≡ k → (open_with S lent k).answer ≡ A.Refused k → day' ≡ no_day
        go zero e z = absurd cc
        go (suc k) e z = is.day ∙ ap (opened_day S lent no_day) e

    -- the desk with the opening's day
    pub refused-replays : (number : ℕ) → a ≡ A.Refused number → (fits : (bs : List Booking) → Dec (Fits S bs)) (journal log : List ℕ)
        → Replays (result_of S lent fits journal (length log)) log (Err number) after sheet' log
    unfolding open_call
    refused-replays number e fits journal log =
        let n : refusal (open_questions S lent) ≡ number = number_is ∙ ap number_of e in
        go number n (sym (said number n) ∙ e)
      where
        go : (k : ℕ) → refusal (open_questions S lent) ≡ k → (open_with S lent k).answer ≡ A.Refused k
            → Replays (result_of S lent fits journal (length log)) log (Err k) after sheet' log
        go zero e z = absurd cc
        go (suc k) e z =
            rw e
            (record {
              refusal = refl;
              entries = refl;
              words = refl;
              log = refl;
              day = is.day ∙ ap (opened_day S lent no_day) e;
              rows = refl;
              opens = is.opens ∙ ap (λ (n : ℕ). (open_with S lent n).state.opens) e;
              reserves = is.reserves ∙ ap (λ (n : ℕ). (open_with S lent n).state.reserves) e;
              helds = is.helds ∙ ap (λ (n : ℕ). (open_with S lent n).state.helds) e;
            })

    -- .. and the desk as it was lent, of which `desk_in` says that day
    pub refused-lent : (number : ℕ) → a ≡ A.Refused number → (fits : (bs : List Booking) → Dec (Fits S bs)) (journal log : List ℕ)
        → Replays (result_of S lent fits journal (length log)) log (Err number) (desk_in (Err number) desk) sheet' log
    refused-lent number e fits journal log =
        subst
        (λ (d : Day). Replays (result_of S lent fits journal (length log)) log (Err number) (record { day = d; rows = desk.rows; places = desk.places }) sheet' log)
        (refused-day number e) (refused-replays number e fits journal log)

    -- accepted
    module _ (accepts : (n : ℕ) → a ≡ A.Refused n → ⊥) where
      none : refusal (open_questions S lent) ≡ 0
      none = go (refusal (open_questions S lent)) refl
        where
          go : (k : ℕ) → refusal (open_questions S lent) ≡ k → k ≡ 0
          go zero e = refl
          go (suc k) e = absurd (accepts (suc k) (said (suc k) e))

      call-opened : (open_call S lent).answer ≡ A.Opened
      unfolding open_call
      call-opened = ap (λ (n : ℕ). (open_with S lent n).answer) none

      opened-day : day' ≡ day_of S (expected S lent at_first 0)
      opened-day = is.day ∙ ap (opened_day S lent no_day) none ∙ ap (day_of S) (opened-expected S lent call-opened)

      opened-setting : setting_at f day' ≡ S
      opened-setting = ap (setting_at f) opened-day

      opened-state : state_in after sheet' ≡ expected S lent at_first 0
      opened-state =
          let e = opened-expected S lent call-opened in
          same-state (ap (λ (x : Day). x.now) opened-day) (ap (λ (x : Day). x.count) opened-day) refl refl
          (is.opens ∙ ap (λ (t : State). t.opens) e)
          (is.reserves ∙ ap (λ (t : State). t.reserves) e)
          (is.helds ∙ ap (λ (t : State). t.helds) e)

      -- the run finds the plain day's first picture
      pub opened-pictured : min desk.places max_bookings ≤ length desk.rows → Pictured (setting_at f day') (state_in after sheet')
      opened-pictured room =
          let a = opened-accepted S lent loss-rising room call-opened in
          subst (λ (U : Setting). Pictured U (state_in after sheet')) (sym opened-setting) (pictured-first S lent (state_in after sheet') a opened-state)

      pub opened-replays : min desk.places max_bookings ≤ length desk.rows → (fits : (bs : List Booking) → Dec (Fits S bs)) (journal log : List ℕ)
          (r : std.Result Replayed ℕ) (desk'' : Desk) (sheet'' : Sheet) (log'' : List ℕ)
          → Replays (run_result (setting_at f day') (desk_run (setting_at f day') (state_in after sheet') (length log) (entries journal))) log r desk'' sheet'' log''
          → Replays (result_of S lent fits journal (length log)) log r desk'' sheet'' log''
      opened-replays room fits journal log r desk'' sheet'' log'' w =
          let a = opened-accepted S lent loss-rising room call-opened in
          let e : run_result (setting_at f day') (desk_run (setting_at f day') (state_in after sheet') (length log) (entries journal))
          ≡ result_of S lent fits journal (length log) =
          ap₂ (λ (U : Setting) (t : State). run_result U (desk_run U t (length log) (entries journal))) opened-setting opened-state
          ∙ run-result S lent fits a (length log) (entries journal)
          ∙ ap (λ (n : ℕ). result_by S lent fits n journal (length log)) (sym none) in
          subst (λ (l : Result). Replays l log r desk'' sheet'' log'') e w
