-- What a replay over lent lists answers and leaves: what the plain day of document 01 says of the journal's entries, over the lent list
-- of records itself, every place of it included.
use Rattle.std.specs.Prelude.{◌≡◌, List, ◌++◌, ℕ, length, drop}
use Rattle.model.specs.Fit.{Fits}
use Rattle.model.specs.declared.Booking.{Booking}
use Rattle.model.specs.declared.Day.{Day}
use Rattle.opening.specs.Contract.{asked}
use Rattle.questions.specs.Given.{setting_at}
use Rattle.replay.specs.Contract.{Result, lent_to, result_of}
use Rattle.interface.specs.declared.replay_call.Replayed.{Replayed}

abbrev pub told : ℕ → ℕ → ℕ → Day → Replayed
told refusal entries words day = record { refusal = refusal; entries = entries; words = words; day = day }

-- the answer, every place of the list of records, of the log and of the sheet
pub record Replays (w : Result) (log : List ℕ) (z : Replayed) (list' : List Booking) (log' o' r' h' : List ℕ) : Type 0 where
  pub answer : z ≡ told w.refusal w.entries (length w.words) w.day
  pub records : list' ≡ w.state.records
  pub logged : log' ≡ w.words ++ drop (length w.words) log
  pub opens : o' ≡ w.state.opens
  pub reserves : r' ≡ w.state.reserves
  pub helds : h' ≡ w.state.helds

-- by any decision of what fits
abbrev pub ReplaysOver : List ℕ → ℕ → ℕ → ℕ → List Booking → List ℕ → List ℕ → List ℕ → List ℕ → List ℕ → Replayed → List Booking → List ℕ → List ℕ → List ℕ → List ℕ → Type 0
ReplaysOver file rounds disk memory list journal log o r h z list' log' o' r' h' =
    (fits : (bs : List Booking) → Dec (Fits (setting_at file (asked rounds disk memory)) bs))
    → Replays (result_of (setting_at file (asked rounds disk memory)) (lent_to list (length list) o r h) fits journal (length log)) log z list' log' o' r' h'
