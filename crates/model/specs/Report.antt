-- The report of a round. Document 01, 'The plain day': "for each booking open in r, in order, with t = r - s and A its
-- schedule by the rule above: name, A(t) - A(t-1), C(t) - C(t-1), A(t) - C(t-1)".
use Rattle.std.specs.Prelude.{cond, List, [], ◌∷◌, ◌++◌, ℕ, ◌+◌, ◌-◌, ◌≤◌, length, get_or, drop, eqb}
use Rattle.retrieval.specs.Schedule.{totals}
use Rattle.model.specs.Day.{Setting, sending, schedule_of, open_at}
use Rattle.model.specs.declared.Booking.{Booking}
use Rattle.model.specs.declared.Line.{Line}

module _ (S : Setting) where
  abbrev pub line_of : ℕ → Booking → Line
  line_of r b =
      let t = r - b.start in
      let A = schedule_of S b in
      let C = totals 0 (sending S b) in
      record {
        name = b.name;
        read = get_or A t 0 - get_or (0 ∷ A) t 0;
        send = get_or C t 0 - get_or (0 ∷ C) t 0;
        held = get_or A t 0 - get_or (0 ∷ C) t 0;
      }

  abbrev pub lines_of : ℕ → List Booking → List Line
  lines_of r [] = []
  lines_of r (b ∷ bs) = cond (open_at S r b) (line_of r b ∷ lines_of r bs) (lines_of r bs)

-- "Report places after the last line are untouched."
abbrev pub written : List Line → List Line → List Line
written lines old = lines ++ drop (length lines) old

-- ---- what lines add up to

abbrev pub sum_read : List Line → ℕ
sum_read [] = 0
sum_read (x ∷ ls) = x.read + sum_read ls

abbrev pub sum_send : List Line → ℕ
sum_send [] = 0
sum_send (x ∷ ls) = x.send + sum_send ls

abbrev pub sum_held : List Line → ℕ
sum_held [] = 0
sum_held (x ∷ ls) = x.held + sum_held ls

-- "In every report the reads plus loss(number of lines) are at most D and the held at most M."
pub record Within (S : Setting) (lines : List Line) : Type 0 where
  pub disk : sum_read lines + S.loss (length lines) ≤ S.disk
  pub memory : sum_held lines ≤ S.memory

abbrev pub EachWithin : Setting → List (List Line) → Type 0
EachWithin S [] = Unit {0}
EachWithin S (ls ∷ lss) = Within S ls × EachWithin S lss

-- the lines of this name
abbrev pub of_name : ℕ → List Line → List Line
of_name n [] = []
of_name n (x ∷ ls) = cond (eqb x.name n) (x ∷ of_name n ls) (of_name n ls)
