-- When a list of bookings fits a day: some schedules keep the limits and the cabs. Document 01, 'The plain day': "A start
-- fits if there are schedules, for this booking there and for each standing one at its own start, each with its own film, p
-- and b, with which in every round of the day the b of the open bookings plus loss(their number) are at most D, the bytes
-- held add up to at most M, and no cab shows two films."
use Rattle.std.specs.Prelude.{Bool, cond, List, [], ◌∷◌, ◌++◌, ℕ, zero, suc, ◌+◌, ◌-◌, ◌≤◌, ◌<◌}
use Rattle.retrieval.specs.Schedule.{Schedule}
use Rattle.model.specs.Day.{Setting, record_of, sending, held_at, opened, reserved, showing}
use Rattle.model.specs.declared.Booking.{Booking}
use Rattle.model.specs.declared.Request.{Request}

module _ (S : Setting) where
  -- the read totals A are a schedule "with its own film, p and b"
  abbrev pub Allowed : Booking → List ℕ → Type 0
  Allowed b A = Schedule (sending S b) b.reserve A

  -- one for each booking
  abbrev pub Schedules : List Booking → List (List ℕ) → Type 0
  Schedules [] [] = Unit {0}
  Schedules [] (A ∷ As) = ⊥
  Schedules (b ∷ bs) [] = ⊥
  Schedules (b ∷ bs) (A ∷ As) = Allowed b A × Schedules bs As

  -- what the bookings hold in round t, each with its own
  abbrev pub held_by : ℕ → List Booking → List (List ℕ) → ℕ
  held_by t [] As = 0
  held_by t (b ∷ bs) [] = 0
  held_by t (b ∷ bs) (A ∷ As) = held_at S t b A + held_by t bs As

  -- with these schedules every round of the day keeps the limits, and no cab shows two films
  pub record Kept (bs : List Booking) (As : List (List ℕ)) : Type 0 where
    pub schedules : Schedules bs As
    pub disk : (t : ℕ) → t < S.rounds → reserved S t bs + S.loss (opened S t bs) ≤ S.disk
    pub memory : (t : ℕ) → t < S.rounds → held_by t bs As ≤ S.memory
    pub cabs : (t : ℕ) → t < S.rounds → (k : ℕ) → showing S k t bs ≤ 1

  -- there are such schedules
  abbrev pub Fits : List Booking → Type 0
  Fits bs = (As : List (List ℕ)) × Kept bs As

  -- "for this booking there and for each standing one at its own start"
  abbrev pub FitsAt : List Booking → Request → ℕ → Type 0
  FitsAt bs q s = Fits (bs ++ (record_of q s ∷ []))

-- ---- the first start of a window

pub data Found : Type 0 where
  nowhere : Found
  at : ℕ → Found

-- the first of the n starts from s on that passes a test
abbrev pub search : (ℕ → Bool) → ℕ → ℕ → Found
search f s zero = nowhere
search f s (suc n) = cond (f s) (at s) (search f (suc s) n)

-- of a window's starts, its first to its last
abbrev pub first_of : (ℕ → Bool) → ℕ → ℕ → Found
first_of f first last = search f first (suc last - first)

-- s is the first start of the window that has P
pub record First (P : ℕ → Type 0) (first last s : ℕ) : Type 0 where
  pub from : first ≤ s
  pub upto : s ≤ last
  pub holds : P s
  pub earlier : (q : ℕ) → first ≤ q → q < s → P q → ⊥

-- no start of the window has P
abbrev pub None : (ℕ → Type 0) → ℕ → ℕ → Type 0
None P first last = (q : ℕ) → first ≤ q → q ≤ last → P q → ⊥
