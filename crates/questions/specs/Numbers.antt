-- The questions that several calls put, over the values that the code passes. Each is the model's by computation.
use Rattle.std.specs.Prelude.{◌≡◌, Bool, true, ◌&&◌, List, [], ◌∷◌, ℕ, ◌≤◌, length, take, leb, eqb}
use Rattle.std.proofs.Common.{leb-true}
use Rattle.laws.specs.Tests.{left, right}
use Rattle.laws.specs.Questions.{Question}
use Rattle.limits.specs.Bounds.{max_day, max_disk, max_memory, max_bookings}
use Rattle.limits.specs.Refusals.{no_room, day_rounds, day_limits, unsound}
use Rattle.films.specs.Questions.{verdict}
use Rattle.model.specs.Soundness.{sound_list}
use Rattle.model.specs.declared.Day.{Day}
use Rattle.model.specs.declared.Desk.{Desk}
use Rattle.model.specs.declared.Sheet.{Sheet}
use Rattle.questions.specs.Given.{setting_at}

-- "is T 1 to 86,400?"
unfoldable pub rounds_hold : ℕ → Bool
rounds_hold rounds = leb 1 rounds && leb rounds max_day

-- "is T in range and `now` at most T?"
unfoldable pub day_holds : Day → Bool
day_holds day = rounds_hold day.rounds && leb day.now day.rounds

-- a day in range has at most 86,400 rounds
pub day-rounds-small : (day : Day) → day_holds day ≡ true → day.rounds ≤ max_day
unfolding day_holds rounds_hold
day-rounds-small day e =
    leb-true day.rounds max_day
    (right (leb 1 day.rounds) (left (leb 1 day.rounds && leb day.rounds max_day) (leb day.now day.rounds) e))

-- "Is D at most 4,294,967,295 and M at most 1,099,511,627,776?"
unfoldable pub limits_hold : ℕ → ℕ → Bool
limits_hold disk memory = leb disk max_disk && leb memory max_memory

-- "Has every sheet list T places?"
unfoldable pub sheet_holds : ℕ → ℕ → ℕ → ℕ → Bool
sheet_holds rounds opens reserves helds = leb rounds opens && (leb rounds reserves && leb rounds helds)

-- 14, 15 and 11, of a day and the lengths of its sheet's lists
unfoldable pub day_asks : Day → ℕ → ℕ → ℕ → List Question
day_asks day opens reserves helds =
    (day_holds day, day_rounds) ∷ (limits_hold day.disk day.memory, day_limits) ∷ (sheet_holds day.rounds opens reserves helds, no_room) ∷ []

-- "Is the list sound?": "at most 256 records, within the list", and the rest as the model has it
unfoldable pub sound_holds : List ℕ → Desk → Bool
sound_holds file desk =
    leb desk.day.count max_bookings
    && (leb desk.day.count desk.places && sound_list (setting_at file desk.day) (take desk.day.count desk.rows))

-- what booking and drop ask before their own questions: the file's, 14, 15, 11 and 16
unfoldable pub standing_asks : List ℕ → Desk → ℕ → ℕ → ℕ → List Question
standing_asks file desk opens reserves helds =
    (eqb (verdict file) 0, verdict file)
    ∷ (day_holds desk.day, day_rounds)
    ∷ (limits_hold desk.day.disk desk.day.memory, day_limits)
    ∷ (sheet_holds desk.day.rounds opens reserves helds, no_room)
    ∷ (sound_holds file desk, unsound)
    ∷ []

-- of the sheet's own lists
abbrev pub asks_in : List ℕ → Desk → Sheet → List Question
asks_in file desk sheet = standing_asks file desk (length sheet.opens.now) (length sheet.reserves.now) (length sheet.helds.now)
