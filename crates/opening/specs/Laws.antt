-- An opening that is refused, and one that is accepted. Assumes nothing.
use Rattle.std.specs.Prelude.{◌≡◌, refl, ◌++◌, length, drop, replicate}
use Rattle.std.proofs.Common.{sym, ap, ◌∙◌, arith, le-leb}
use Rattle.std.proofs.Math.Bool.{and-true}
use Prim.Native.Nat.{ℕ, zero, suc}
use Rattle.laws.specs.Questions.{refusal}
use Rattle.model.specs.Day.{Setting, State}
use Rattle.model.specs.Calls.{open_questions, open_call, rounds_in_range, limits_in_range, sheet_long}
use Rattle.model.specs.Code.{day_opened}
use Rattle.model.specs.Answers.{number_of}
use Rattle.model.proofs.Unchanged.{open-empty}
use Rattle.model.specs.declared.Day.{Day}
use Rattle.model.specs.declared.Answer.TheVariants.{Refused, Opened}
use Rattle.questions.specs.Numbers.{rounds_hold, day_holds, limits_hold, sheet_holds, day_asks}
use Rattle.opening.specs.Contract.{asked, Opens}
use Rattle.model.specs.declared.Sheet.{Sheet}

-- a day that begins is in range if T is
begins : (S : Setting) → day_holds (asked S.rounds S.disk S.memory) ≡ rounds_in_range S
unfolding day_holds rounds_hold rounds_in_range
begins S = rw (le-leb 0 S.rounds (omega arith)) (and-true _)

module _ (S : Setting) (d : State) (before : Day) where
  -- the number of the questions of the day that is asked for
  abbrev asks : ℕ
  asks = refusal (day_asks (asked S.rounds S.disk S.memory) (length d.opens) (length d.reserves) (length d.helds))

  -- they are the model's
  same_asks : refusal (open_questions S d) ≡ asks
  unfolding day_asks open_questions limits_hold limits_in_range sheet_holds sheet_long
  same_asks = rw (begins S)

  -- refused: nothing changes
  pub refused-opens : (n : ℕ) → n ≡ asks → (n ≡ 0 → ⊥)
      → (sheet : Sheet) → sheet.opens.now ≡ d.opens → sheet.reserves.now ≡ d.reserves → sheet.helds.now ≡ d.helds
      → Opens S d before (Refused n) before sheet
  unfolding open_call
  refused-opens n e some sheet o v h = rw e (go asks same_asks (λ z. some (e ∙ z)))
    where
      go : (k : ℕ) → refusal (open_questions S d) ≡ k → (k ≡ 0 → ⊥) → Opens S d before (Refused k) before sheet
      go zero u z = absurd (z refl)
      go (suc k) u z = record { answer = rw u; day = rw u; opens = rw u o; reserves = rw u v; helds = rw u h }

  -- accepted: an empty day, whose sheet is zero in its first T places
  module _ (none : 0 ≡ asks) where
    call-opened : (open_call S d).answer ≡ Opened
    unfolding open_call
    call-opened = rw (same_asks ∙ sym none)

    day-opened : day_opened S d before ≡ record { rounds = S.rounds; disk = S.disk; memory = S.memory; now = 0; count = 0 }
    unfolding open_call
    day-opened = let e = same_asks ∙ sym none in rw (e, e)

    pub accepted-opens : (sheet : Sheet)
        → sheet.opens.now ≡ replicate S.rounds 0 ++ drop S.rounds d.opens
        → sheet.reserves.now ≡ replicate S.rounds 0 ++ drop S.rounds d.reserves
        → sheet.helds.now ≡ replicate S.rounds 0 ++ drop S.rounds d.helds
        → Opens S d before Opened (record { rounds = S.rounds; disk = S.disk; memory = S.memory; now = 0; count = 0 }) sheet
    accepted-opens sheet o v h =
        let empty = open-empty S d (ap number_of call-opened) in
        record {
          answer = sym call-opened;
          day = sym day-opened;
          opens = o ∙ sym empty.opens;
          reserves = v ∙ sym empty.reserves;
          helds = h ∙ sym empty.helds;
        }
