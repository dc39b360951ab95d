-- Demand 3: "Any booking that passes the earlier questions, in such a list or on any other lent day, starts in the first
-- round of its window at which some underflow-free schedules, for it and for all standing bookings at their own reserves
-- and starts, would fit the limits and leave its cabs free; it is refused 22 exactly when its window has no such round."
-- Assumes nothing.
use Rattle.std.specs.Prelude.{◌≡◌, ◌↔◌, ◌⊎◌, Bool, true, false, [], ◌∷◌, ℕ, ◌+◌, ◌≤◌, ◌<◌}
use Rattle.limits.specs.Refusals.{no_start}
use Rattle.model.specs.Fit.{Found, nowhere, at, First, None}
use Rattle.model.specs.Answers.{number_of, values_of}
use Rattle.model.specs.declared.Answer.{Answer}

-- ---- what a search finds

-- among the n starts from s on, by a test f: the first that passes, or that none does
pub record FirstAt (f : ℕ → Bool) (s n r : ℕ) : Type 0 where
  pub from : s ≤ r
  pub upto : r < s + n
  pub passes : f r ≡ true
  pub earlier : (q : ℕ) → s ≤ q → q < r → f q ≡ false

abbrev pub Finds : (ℕ → Bool) → ℕ → ℕ → Found → Type 0
Finds f s n (at r) = FirstAt f s n r
Finds f s n nowhere = (q : ℕ) → s ≤ q → q < s + n → f q ≡ false

-- in a window, by a test of P
abbrev pub FirstStart : (ℕ → Type 0) → ℕ → ℕ → Found → Type 0
FirstStart P first last (at s) = First P first last s
FirstStart P first last nowhere = None P first last

-- ---- the claim

-- the answer is a start, the first of the window that has P; or it is 22, which is so exactly if no start of the window has
-- P
pub record AnswersFirst (P : ℕ → Type 0) (first last : ℕ) (a : Answer) : Type 0 where
  pub either : (number_of a ≡ 0) ⊎ (number_of a ≡ no_start)
  pub booked : number_of a ≡ 0 → (s : ℕ) × (values_of a ≡ s ∷ []) × First P first last s
  pub refused : (number_of a ≡ no_start) ↔ None P first last
