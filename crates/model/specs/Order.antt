-- The numbers of each call's questions, in the paper's order, and that they decide the answer (demand 1: "one refusal
-- number chosen by the fixed order of questions"). For every setting and everything lent and given. Assumes nothing.
use Rattle.std.specs.Prelude.{◌≡◌, Bool, true, false, List, [], ◌∷◌, ℕ}
use Rattle.laws.specs.Questions.{Question}
use Rattle.limits.specs.Refusals.{no_start}
use Rattle.model.specs.Day.{Setting, State}
use Rattle.model.specs.Fit.{Found, nowhere, at}
use Rattle.model.specs.Calls.{open_questions, book_questions, drop_questions, play_questions}
use Rattle.model.specs.declared.Request.{Request}

-- ---- the order

abbrev pub numbers : List Question → List ℕ
numbers [] = []
numbers (q ∷ qs) = q.1 ∷ numbers qs

pub record Order (S : Setting) (d : State) (q : Request) (name room : ℕ) : Type 0 where
  pub opening : numbers (open_questions S d) ≡ 14 ∷ 15 ∷ 11 ∷ []
  pub booking : numbers (book_questions S d q) ≡ S.verdict ∷ 14 ∷ 15 ∷ 11 ∷ 16 ∷ 18 ∷ 8 ∷ 9 ∷ 10 ∷ 20 ∷ 12 ∷ 21 ∷ 17 ∷ []
  pub last : no_start ≡ 22
  pub drop : numbers (drop_questions S d name) ≡ S.verdict ∷ 14 ∷ 15 ∷ 11 ∷ 16 ∷ 19 ∷ []
  pub play : numbers (play_questions S d room) ≡ S.verdict ∷ 14 ∷ 15 ∷ 16 ∷ 23 ∷ 11 ∷ []

-- ---- the answer's number

abbrev pub tail : List Question → List Question
tail [] = []
tail (q ∷ qs) = qs

-- "Does a start in the window fit?"
abbrev pub found : Found → Bool
found nowhere = false
found (at s) = true
