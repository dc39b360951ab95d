-- The sheet of the streams is the sheet of the bookings. Document 01, 'A day at the desk': "films open, sum of reserves, sum of
-- bytes held". Assumes nothing.
use Rattle.std.specs.Prelude.{◌≡◌, List, ◌++◌, ℕ, drop}
use Rattle.std.proofs.Common.{sym, ap, ◌∙◌}
use Rattle.model.specs.Day.{Setting, opened, reserved, held}
use Rattle.model.specs.Calls.{worked_out}
use Rattle.model.proofs.PlacesLaws.{per_round-same}
use Rattle.model.specs.declared.Booking.{Booking}
use Rattle.load.specs.declared.stream.Stream.{Stream}
use Rattle.rounds.specs.Sheet.{DaySheet}
use Rattle.questions.specs.Tied.{AllTied, opened-tied, reserved-tied, held-tied}

-- the first T places of three lists are worked out from bs, and the rest is as it was
pub record SheetOf (S : Setting) (bs : List Booking) (opens₀ reserves₀ helds₀ opens reserves helds : List ℕ) : Type 0 where
  pub films : opens ≡ worked_out S.rounds (λ t. opened S t bs) opens₀
  pub reserve-sums : reserves ≡ worked_out S.rounds (λ t. reserved S t bs) reserves₀
  pub held-sums : helds ≡ worked_out S.rounds (λ t. held S t bs) helds₀

worked_same : (T : ℕ) (g h : ℕ → ℕ) (old : List ℕ) → ((t : ℕ) → g t ≡ h t) → worked_out T g old ≡ worked_out T h old
worked_same T g h old e = ap (λ (l : List ℕ). l ++ drop T old) (per_round-same g h e 0 T)

pub day-sheet-of : (S : Setting) (f : List ℕ) (bs : List Booking) (xs : List Stream) → AllTied S f bs xs
    → (o₀ r₀ h₀ o r h : List ℕ) → DaySheet f xs S.rounds o₀ r₀ h₀ o r h → SheetOf S bs o₀ r₀ h₀ o r h
day-sheet-of S f bs xs tied o₀ r₀ h₀ o r h summed =
    record {
      films = summed.films ∙ worked_same S.rounds _ _ o₀ (λ t. sym (opened-tied S f bs xs tied t));
      reserve-sums = summed.reserved ∙ worked_same S.rounds _ _ r₀ (λ t. sym (reserved-tied S f bs xs tied t));
      held-sums = summed.held ∙ worked_same S.rounds _ _ h₀ (λ t. sym (held-tied S f bs xs tied t));
    }
