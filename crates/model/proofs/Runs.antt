-- A list of calls, each on the day as the last one left it, by induction over `step`; and the accepted opening that it
-- begins with. Assumes what `Accepted` says.
use Rattle.std.specs.Prelude.{◌≡◌, refl, List, [], ◌∷◌, map, ℕ, zero, suc, ◌≤◌, min, max, length}
use Rattle.std.proofs.Common.{ap, ◌∙◌, arith}
use Rattle.laws.specs.Questions.{Question, refusal, refusal-held}
use Rattle.limits.specs.Bounds.{max_bookings}
use Rattle.limits.specs.Refusals.{no_room, day_rounds, day_limits}
use Rattle.model.specs.Day.{Setting, State}
use Rattle.model.specs.Fit.{Fits}
use Rattle.model.specs.Calls.{rounds_in_range, limits_in_range, sheet_long, open_questions, open_with, open_call, Call, call, answers, reports, after_all}
use Rattle.model.specs.PlainDay.{PlainDay, at_first, Arguments, plain_call, plain_answers, plain_reports, plain_after, ever_taken}
use Rattle.model.specs.Loss.{Rising}
use Rattle.model.specs.Expected.{arguments_of, all_written, expected}
use Rattle.model.proofs.FitLaws.{round-limits, says-round}
use Rattle.model.specs.Steps.{Accepted, Good}
use Rattle.model.proofs.Steps.{step}
use Rattle.model.specs.declared.Booking.{Booking}
use Rattle.model.specs.declared.Answer.TheVariants.{Opened}

module _ (S : Setting) (lent : State) (fits : (bs : List Booking) → Dec (Fits S bs)) (accepted : Accepted S lent) where
  -- ---- a list of calls

  ever-least : (s : PlainDay) (cs : List Arguments) → length s.standing ≤ ever_taken S lent.places fits s cs
  ever-least s [] = omega arith
  ever-least s (c ∷ cs) = omega arith

  pub record Runs (d : State) (s : PlainDay) (m : ℕ) (cs : List Call) : Type 0 where
    pub answered : answers S d cs ≡ plain_answers S lent.places fits s (map arguments_of cs)
    pub reported : reports S d cs ≡ all_written (plain_reports S lent.places fits s (map arguments_of cs)) cs
    pub ended : after_all S d cs
        ≡ expected S lent (plain_after S lent.places fits s (map arguments_of cs)) (max m (ever_taken S lent.places fits s (map arguments_of cs)))
    pub good : Good S lent fits accepted (plain_after S lent.places fits s (map arguments_of cs)) (max m (ever_taken S lent.places fits s (map arguments_of cs)))

  pub runs : (cs : List Call) (s : PlainDay) (m : ℕ) → Good S lent fits accepted s m → Runs (expected S lent s m) s m cs
  runs [] s m g =
      let x : m ≡ max m (length s.standing) = omega (arith, g.most) in
      record { answered = refl; reported = refl; ended = ap (expected S lent s) x; good = rw (← x) g }
  runs (c ∷ cs) s m g =
      let v = step S lent fits accepted s m g c in
      let s' = (plain_call S lent.places fits s (arguments_of c)).after in
      let m' = max m (length s'.standing) in
      let i : Runs (call S (expected S lent s m) c).state s' m' cs = rw v.state (runs cs s' m' v.good) in
      let E = ever_taken S lent.places fits s' (map arguments_of cs) in
      let x : max m' E ≡ max m (max (length s.standing) E) = omega (arith, g.most, ever-least s' (map arguments_of cs)) in
      record {
        answered = cc (v.answer, i.answered);
        reported = cc (v.report, i.reported);
        ended = i.ended ∙ ap (expected S lent (plain_after S lent.places fits s' (map arguments_of cs))) x;
        good = rw x at i.good;
      }

  pub good-first : Good S lent fits accepted at_first 0
  good-first =
      record {
        clock = omega arith;
        few = omega arith;
        most = omega arith;
        room = omega arith;
        sound =
            record {
              names = refl;
              passed = refl;
              kept =
                  round-limits S []
                  (λ t b. says-round S [] t (record {
                    disk = omega (arith, accepted.rising.none);
                    memory = omega arith;
                    cabs = λ k. omega arith;
                  }));
            };
      }

-- ---- the opening

-- no question of an accepted one says no
open-held : (S : Setting) (lent : State) → (open_call S lent).answer ≡ Opened → refusal (open_questions S lent) ≡ 0
unfolding open_call
open-held S lent e = go (refusal (open_questions S lent)) e
  where
    go : (n : ℕ) → (open_with S lent n).answer ≡ Opened → n ≡ 0
    go zero u = refl
    go (suc k) u = let z : ◌≡◌ {A = ℕ} 0 1 = cc in absurd (omega arith)

pub opened-accepted : (S : Setting) (lent : State) → Rising S.loss → min lent.places max_bookings ≤ length lent.records
    → (open_call S lent).answer ≡ Opened → Accepted S lent
unfolding open_questions
opened-accepted S lent rising room e =
    let q11 : List Question = (sheet_long S lent, no_room) ∷ [] in
    let q15 : List Question = (limits_in_range S, day_limits) ∷ q11 in
    let a14 = refusal-held (rounds_in_range S) day_rounds q15 (omega arith) (open-held S lent e) in
    let a15 = refusal-held (limits_in_range S) day_limits q11 (omega arith) a14.1 in
    record { rising = rising; rounds = a14.0; limits = a15.0; room = room }

-- it leaves what the plain day expects at first
pub opened-expected : (S : Setting) (lent : State) → (open_call S lent).answer ≡ Opened
    → (open_call S lent).state ≡ expected S lent at_first 0
unfolding open_call
opened-expected S lent e = ap (λ (n : ℕ). (open_with S lent n).state) (open-held S lent e)
