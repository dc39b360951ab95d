-- A drop that is refused, and one that is carried out. Assumes nothing.
use Rattle.std.specs.Prelude.{◌≡◌, refl, true, false, List, ◌++◌, ℕ, zero, suc, ◌<◌, length, take}
use Rattle.std.proofs.Common.{sym, ap, ◌∙◌, arith, subst, length-take}
use Rattle.laws.specs.Questions.{refusal}
use Rattle.limits.specs.Refusals.{number_of}
use Rattle.limits.specs.declared.refusals.Refusal.{Refusal}
use Rattle.limits.specs.declared.refusals.Refusal.TheVariants.{NoName}
use Rattle.limits.proofs.Numbers.{number-not_zero}
use Rattle.loss.proofs.Rising.{loss-rising}
use Rattle.model.specs.Day.{Setting, State}
use Rattle.model.specs.Questions.{has_name, drop_own}
use Rattle.model.specs.Calls.{standing, without, rounds_in_range, day_in_range, limits_in_range, sheet_long, sound, drop_questions, drop_call}
use Rattle.model.specs.Code.{state_in}
use Rattle.model.proofs.SoundLaws.{says-sound, sound-without}
use Rattle.model.specs.declared.Booking.{Booking}
use Rattle.model.specs.declared.Answer.TheVariants.{Refused, Dropped}
use Rattle.model.specs.declared.Desk.{Desk}
use Rattle.model.specs.declared.Sheet.{Sheet}
use Rattle.questions.specs.Given.{setting_at}
use Rattle.questions.specs.Numbers.{rounds_hold, day_holds, limits_hold, sheet_holds, sound_holds, standing_asks}
use Rattle.questions.specs.Standing.{Standing, standing-held, standing-first, standing-after}
use Rattle.questions.specs.SheetOf.{SheetOf}
use Rattle.dropping.specs.Contract.{Drops}
use Rattle.dropping.specs.Removal.{left}
use Rattle.dropping.specs.Standing.{Stands}

module _ (f : List ℕ) (desk : Desk) (sheet : Sheet) where
  abbrev o : ℕ
  o = length sheet.opens.now

  abbrev v : ℕ
  v = length sheet.reserves.now

  abbrev h : ℕ
  h = length sheet.helds.now

  abbrev S : Setting
  S = setting_at f desk.day

  abbrev d : State
  d = state_in desk sheet

  module _ (name : ℕ) where
    -- the questions up to 16, and 19
    parts : drop_questions S d name ≡ standing_asks f desk o v h ++ drop_own S (standing d) name
    unfolding drop_questions standing_asks rounds_in_range day_in_range limits_in_range sheet_long sound rounds_hold day_holds limits_hold sheet_holds sound_holds
    parts = refl

    -- refused, nothing changes
    refused-drops : (k : ℕ) → refusal (drop_questions S d name) ≡ k → (k ≡ 0 → ⊥) → Drops S d name (Refused k) desk sheet
    unfolding drop_call
    refused-drops zero e some = absurd (some refl)
    refused-drops (suc k) e some =
        record { answer = rw e; day = rw e; rows = rw e; places = refl; opens = rw e; reserves = rw e; helds = rw e }

    -- by a question before 19
    pub standing-refused : (n : ℕ) → n ≡ refusal (standing_asks f desk o v h) → (n ≡ 0 → ⊥) → Drops S d name (Refused n) desk sheet
    standing-refused n e some =
        refused-drops n (ap refusal parts ∙ standing-first f desk o v h (drop_own S (standing d) name) n e some) some

    module _ (none : refusal (standing_asks f desk o v h) ≡ 0) where
      held : Standing f desk o v h
      held = standing-held f desk o v h none

      own : refusal (drop_questions S d name) ≡ refusal (drop_own S (standing d) name)
      own = ap refusal parts ∙ standing-after f desk o v h (drop_own S (standing d) name) none

      -- by 19
      pub name-refused : false ≡ has_name name (standing d) → Drops S d name (Refused (number_of NoName)) desk sheet
      unfolding drop_own
      name-refused e = refused-drops (number_of NoName) (own ∙ rw (sym e)) (number-not_zero NoName)

      -- ---- carried out

      module _ (there : true ≡ has_name name (standing d)) (rest : take (left name desk).day.count (left name desk).rows ≡ without name (standing d)) where
        -- the rest is a sound list
        pub rest-stands : Stands f (left name desk) sheet
        rest-stands =
            let sound = sound-without S loss-rising name (standing d) (omega (arith, held.few, length-take desk.day.count desk.rows)) held.sound in
            record {
              rounds = held.rounds;
              few = omega (arith, held.few);
              sound = rw rest (says-sound S (without name (standing d)) sound);
              places = record { opens-places = held.opens; reserves-places = held.reserves; helds-places = held.helds };
            }

        number-none : refusal (drop_questions S d name) ≡ 0
        unfolding drop_own
        number-none = own ∙ rw (sym there)

        pub accepted-drops : (lent : Sheet)
            → SheetOf S (take (left name desk).day.count (left name desk).rows) sheet.opens.now sheet.reserves.now sheet.helds.now lent.opens.now lent.reserves.now lent.helds.now
            → Drops S d name Dropped (left name desk) lent
        unfolding drop_call
        accepted-drops lent k =
            let u = subst (λ (bs : List Booking). SheetOf S bs sheet.opens.now sheet.reserves.now sheet.helds.now lent.opens.now lent.reserves.now lent.helds.now) rest k in
            record {
              answer = rw number-none;
              day = rw number-none;
              rows = rw number-none;
              places = refl;
              opens = rw number-none u.films;
              reserves = rw number-none u.reserve-sums;
              helds = rw number-none u.held-sums;
            }
