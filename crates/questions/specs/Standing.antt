-- What holds where the questions up to 16 have passed, which every call but opening asks before its own. Assumes nothing.
use Rattle.std.specs.Prelude.{◌≡◌, refl, false, ◌&&◌, ℕ, zero, suc, ◌≤◌, ◌<◌, take, eqb}
use Rattle.std.proofs.Common.{sym, ap, ◌∙◌}
use Rattle.std.proofs.Math.Bool.{true}
use mathlib.Core.List.{List, [], ◌∷◌, ◌++◌}
use native.Mathlib.Omega.{arith}
use Rattle.std.proofs.Math.Dec.{leb}
use borrow.Author.Tests.{leb-true, eq-eqb, ne_eqb}
use Rattle.laws.specs.Tests.{left, right}
use Rattle.laws.specs.Questions.{Question, refusal, or_else, or_else-first, Numbered, refusal-append, refusal-held, both-held}
use Rattle.limits.specs.Bounds.{max_bookings, max_day}
use Rattle.limits.specs.Refusals.{day_rounds, day_limits, no_room, unsound, number_of}
use Rattle.limits.specs.declared.refusals.Refusal.{Refusal}
use Rattle.limits.proofs.Numbers.{number-not_zero}
use Rattle.films.specs.Questions.{verdict}
use Rattle.model.specs.Soundness.{sound_list}
use Rattle.model.specs.SoundLaws.{Sound}
use Rattle.model.proofs.SoundLaws.{sound-says}
use Rattle.model.specs.declared.Day.{Day}
use Rattle.model.specs.declared.Desk.{Desk}
use Rattle.questions.specs.Given.{setting_at}
use Rattle.questions.specs.Numbers.{rounds_hold, day_holds, limits_hold, sheet_holds, sound_holds, day_asks, standing_asks, day-rounds-small}

pub record Standing (f : List ℕ) (desk : Desk) (o r h : ℕ) : Type 0 where
  pub accepted : verdict f ≡ 0
  pub rounds : desk.day.rounds ≤ max_day
  pub today : desk.day.now ≤ desk.day.rounds
  pub opens : desk.day.rounds ≤ o
  pub reserves : desk.day.rounds ≤ r
  pub helds : desk.day.rounds ≤ h
  pub few : desk.day.count ≤ max_bookings
  pub within : desk.day.count ≤ desk.places
  pub sound : Sound (setting_at f desk.day) (take desk.day.count desk.rows)

verdict-held : (v : ℕ) (qs : List Question) → refusal ((eqb v 0, v) ∷ qs) ≡ 0 → (v ≡ 0) × (refusal qs ≡ 0)
verdict-held zero qs e = (refl, e)
verdict-held (suc v) qs e =
    let z : eqb (suc v) 0 ≡ false = ne_eqb (suc v) 0 (λ d. omega arith) in
    let w : suc v ≡ 0 = rw z at e in
    absurd (omega arith)

pub verdict-numbered : (v : ℕ) → eqb v 0 ≡ false → 0 < v
verdict-numbered zero e = let z : ◌≡◌ {A = ℕ} 0 1 = cc in absurd (omega arith)
verdict-numbered (suc v) e = omega arith

-- where 14, 15 and 11 have passed
pub record DayStands (day : Day) (o r h : ℕ) : Type 0 where
  pub rounds : day.rounds ≤ max_day
  pub today : day.now ≤ day.rounds
  pub opens : day.rounds ≤ o
  pub reserves : day.rounds ≤ r
  pub helds : day.rounds ≤ h

module _ (day : Day) (opens reserves helds : ℕ) where
  day-numbered : Numbered (day_asks day opens reserves helds)
  unfolding day_asks
  day-numbered = (λ e. omega arith, (λ e. omega arith, (λ e. omega arith, tt)))

  pub day-held : refusal (day_asks day opens reserves helds) ≡ 0 → DayStands day opens reserves helds
  unfolding day_asks day_holds sheet_holds
  day-held e =
      let q11 : List Question = (sheet_holds day.rounds opens reserves helds, no_room) ∷ [] in
      let q15 : List Question = (limits_hold day.disk day.memory, day_limits) ∷ q11 in
      let a14 = refusal-held (day_holds day) day_rounds q15 (omega arith) e in
      let a15 = refusal-held (limits_hold day.disk day.memory) day_limits q11 (omega arith) a14.1 in
      let a11 = refusal-held (sheet_holds day.rounds opens reserves helds) no_room [] (omega arith) a15.1 in
      let o = leb day.rounds opens in
      let r = leb day.rounds reserves in
      let h = leb day.rounds helds in
      let rh : r && h ≡ true = right o a11.0 in
      record {
        rounds = day-rounds-small day a14.0;
        today = leb-true day.now day.rounds (right (rounds_hold day.rounds) a14.0);
        opens = leb-true day.rounds opens (left o (r && h) a11.0);
        reserves = leb-true day.rounds reserves (left r h rh);
        helds = leb-true day.rounds helds (right r rh);
      }

module _ (f : List ℕ) (desk : Desk) (opens reserves helds : ℕ) where
  -- the file's questions, then 14, 15 and 11, then 16
  asks-parted : standing_asks f desk opens reserves helds
      ≡ (eqb (verdict f) 0, verdict f) ∷ (day_asks desk.day opens reserves helds ++ ((sound_holds f desk, unsound) ∷ []))
  unfolding standing_asks day_asks
  asks-parted = refl

  pub standing-held : refusal (standing_asks f desk opens reserves helds) ≡ 0 → Standing f desk opens reserves helds
  unfolding sound_holds
  standing-held e =
      let q16 : List Question = (sound_holds f desk, unsound) ∷ [] in
      let a1 = verdict-held (verdict f) (day_asks desk.day opens reserves helds ++ q16) (sym (ap refusal asks-parted) ∙ e) in
      let both = both-held (day_asks desk.day opens reserves helds) q16 (day-numbered desk.day opens reserves helds) a1.1 in
      let day = day-held desk.day opens reserves helds both.0 in
      let a16 = refusal-held (sound_holds f desk) unsound [] (omega arith) both.1 in
      let n = leb desk.day.count max_bookings in
      let w = leb desk.day.count desk.places in
      let list = sound_list (setting_at f desk.day) (take desk.day.count desk.rows) in
      let wl : w && list ≡ true = right n a16.0 in
      record {
        accepted = a1.0;
        rounds = day.rounds;
        today = day.today;
        opens = day.opens;
        reserves = day.reserves;
        helds = day.helds;
        few = leb-true desk.day.count max_bookings (left n (w && list) a16.0);
        within = leb-true desk.day.count desk.places (left w list wl);
        sound = sound-says (setting_at f desk.day) (take desk.day.count desk.rows) (right w wl);
      }

  -- of an accepted file: a refusal of 14, 15 or 11 stands; else 16 decides
  module _ (accepted : verdict f ≡ 0) where
    day-then : refusal (standing_asks f desk opens reserves helds)
        ≡ or_else (refusal (day_asks desk.day opens reserves helds)) (refusal ((sound_holds f desk, unsound) ∷ []))
    day-then =
        ap refusal asks-parted
        ∙ rw (eq-eqb (verdict f) 0 accepted)
        (refusal-append (day_asks desk.day opens reserves helds) _ (day-numbered desk.day opens reserves helds))

    pub day-first : (e : Refusal) → number_of e ≡ refusal (day_asks desk.day opens reserves helds)
        → number_of e ≡ refusal (standing_asks f desk opens reserves helds)
    day-first e v =
        sym (day-then ∙ or_else-first (refusal (day_asks desk.day opens reserves helds)) _ (λ z. number-not_zero e (v ∙ z)) ∙ sym v)

    pub day-after : 0 ≡ refusal (day_asks desk.day opens reserves helds)
        → refusal (standing_asks f desk opens reserves helds) ≡ refusal ((sound_holds f desk, unsound) ∷ [])
    day-after e = day-then ∙ rw (sym e)

  pub standing-numbered : Numbered (standing_asks f desk opens reserves helds)
  unfolding standing_asks
  standing-numbered =
      (verdict-numbered (verdict f), (λ e. omega arith, (λ e. omega arith, (λ e. omega arith, (λ e. omega arith, tt)))))

  -- a refusal of the file is that of all these
  pub file-first : (e : Refusal) → number_of e ≡ verdict f → refusal (standing_asks f desk opens reserves helds) ≡ number_of e
  unfolding standing_asks
  file-first e v = rw (ne_eqb (verdict f) 0 (λ z. number-not_zero e (v ∙ z))) (sym v)

  -- a number before the call's own questions stands, whatever these are; else they decide
  pub standing-first : (rs : List Question) (n : ℕ) → n ≡ refusal (standing_asks f desk opens reserves helds) → (n ≡ 0 → ⊥)
      → refusal (standing_asks f desk opens reserves helds ++ rs) ≡ n
  standing-first rs n e h =
      refusal-append (standing_asks f desk opens reserves helds) rs standing-numbered
      ∙ or_else-first (refusal (standing_asks f desk opens reserves helds)) (refusal rs) (λ z. h (e ∙ z))
      ∙ sym e

  pub standing-after : (rs : List Question) → refusal (standing_asks f desk opens reserves helds) ≡ 0
      → refusal (standing_asks f desk opens reserves helds ++ rs) ≡ refusal rs
  standing-after rs e = refusal-append (standing_asks f desk opens reserves helds) rs standing-numbered ∙ rw e
