-- Safety (demand 3): "In no round does a film send an unread byte, is a limit passed or is a cab given two films", for
-- every list of calls.
use Rattle.std.specs.Prelude.{◌≡◌, cond, List, [], ◌∷◌, ◌++◌, map, ℕ, ◌≤◌, take}
use Rattle.model.specs.Day.{Setting, State, schedule_of}
use Rattle.model.specs.Fit.{Kept}
use Rattle.model.specs.Questions.{has_name}
use Rattle.model.specs.Report.{sum_read, sum_send, EachWithin, of_name}
use Rattle.model.specs.Calls.{standing, Call, booking, call, after_all}
use Rattle.model.specs.declared.Request.{Request}
use Rattle.model.specs.declared.Line.{Line}
use Rattle.model.specs.declared.Answer.{Answer}
use Rattle.model.specs.declared.Answer.TheVariants.{Refused, Opened, Booked, Dropped, Played}

-- the lines that a call wrote to its report
abbrev pub lines_in : Answer → List Line → List Line
lines_in (Played n cabs) report = take n report
lines_in (Refused k) report = []
lines_in Opened report = []
lines_in (Booked s) report = []
lines_in Dropped report = []

module _ (S : Setting) where
  abbrev pub call_lines : State → Call → List Line
  call_lines d c = lines_in (call S d c).answer (call S d c).report

  -- of each call of a list
  abbrev pub lines_of_all : State → List Call → List (List Line)
  lines_of_all d [] = []
  lines_of_all d (c ∷ cs) = call_lines d c ∷ lines_of_all (call S d c).state cs

  -- the lines of the booking that stands under this name, for as long as it stands: the same name booked again is another
  -- booking
  abbrev pub lines_for : ℕ → State → List Call → List Line
  lines_for n d [] = []
  lines_for n d (c ∷ cs) =
      of_name n (call_lines d c) ++ cond (has_name n (standing (call S d c).state)) (lines_for n (call S d c).state cs) []

  -- of every list of calls on the day d
  pub record Safe (d : State) : Type 0 where
    -- "After every call the standing bookings keep limits and cabs in all T rounds", each with its own schedule
    pub kept : (cs : List Call) → let bs = standing (after_all S d cs) in Kept S bs (map (schedule_of S) bs)
    -- "In every report the reads plus loss(number of lines) are at most D and the held at most M."
    pub within : (cs : List Call) → EachWithin S (lines_of_all d cs)
    -- "on one booking's lines since it was accepted, the sends up to any line add up to at most the reads up to it"
    pub unread : (before : List Call) (q : Request) (x : ℕ) → (call S (after_all S d before) (booking q)).answer ≡ Booked x
        → (after : List Call) (k : ℕ)
        → let lines = lines_for q.name (call S (after_all S d before) (booking q)).state after in
        sum_send (take k lines) ≤ sum_read (take k lines)
