-- Document 01, 'The schedule rule': "The least reserve for film, p and memory cap is the smallest b that has a schedule with
-- peak at most the cap." Over all schedules.
use Rattle.std.specs.Prelude.{Bool, cond, ◌&&◌, List, ℕ, zero, suc, ◌≤◌, leb}
use Rattle.laws.specs.Sums.{largest}
use Rattle.retrieval.specs.Schedule.{Schedule, peak}
use Rattle.retrieval.specs.JustInTime.{just_in_time, exists_by}

-- b has a schedule with peak at most the cap
abbrev pub Serves : List ℕ → ℕ → ℕ → Type 0
Serves xs cap b = (rs : List ℕ) × Schedule xs b rs × (peak xs rs ≤ cap)

-- and is the smallest that has
pub record Least (xs : List ℕ) (cap b : ℕ) : Type 0 where
  pub serves : Serves xs cap b
  pub least : (b' : ℕ) → Serves xs cap b' → b ≤ b'

-- ---- the same as tests and as a number, by the just-in-time schedule; ReserveLaws.antt proves that they agree with the above

-- `Serves` (`serves_by-iff`)
abbrev pub serves_by : List ℕ → ℕ → ℕ → Bool
serves_by xs cap b = exists_by b xs && leb (peak xs (just_in_time b 0 xs)) cap

-- the first of the numbers b, .., b + k that passes a test, if one before the last does; else the last
abbrev pub first_from : (ℕ → Bool) → ℕ → ℕ → ℕ
first_from f b zero = b
first_from f b (suc k) = cond (f b) b (first_from f (suc b) k)

-- the number that is the least reserve, wherever there is one (`least_reserve-least`)
unfoldable pub least_reserve : List ℕ → ℕ → ℕ
least_reserve xs cap = first_from (serves_by xs cap) 0 (largest xs)
