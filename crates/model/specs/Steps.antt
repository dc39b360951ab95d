-- Each call keeps the lent day the one that the plain day expects, and its list sound; so does a list of calls. The
-- invariant is `Good`: a sound list of at most 256 standing bookings, `now` at most T, and at least as many places ever
-- taken as bookings stand. Assumes what `Accepted` says.
use Rattle.std.specs.Prelude.{◌≡◌, true}
use mathlib.Core.List.{List}
use Prim.Native.Nat.{ℕ, ◌≤◌, min, max}
use Rattle.std.proofs.Math.ListN.{length}
use Rattle.limits.specs.Bounds.{max_bookings}
use Rattle.model.specs.Day.{Setting, State}
use Rattle.model.specs.Fit.{Fits}
use Rattle.model.specs.Report.{written}
use Rattle.model.specs.Calls.{Outcome, rounds_in_range, limits_in_range}
use Rattle.model.specs.PlainDay.{PlainDay, PlainOutcome}
use Rattle.model.specs.Loss.{Rising}
use Rattle.model.specs.Expected.{expected}
use Rattle.model.specs.SoundLaws.{Sound}
use Rattle.model.specs.declared.Booking.{Booking}
use Rattle.model.specs.declared.Line.{Line}

-- what holds from an accepted opening on
pub record Accepted (S : Setting) (lent : State) : Type 0 where
  pub rising : Rising S.loss
  pub rounds : rounds_in_range S ≡ true
  pub limits : limits_in_range S ≡ true
  pub room : min lent.places max_bookings ≤ length lent.records

module _ (S : Setting) (lent : State) (fits : (bs : List Booking) → Dec (Fits S bs)) (accepted : Accepted S lent) where
  -- ---- the invariant

  pub record Good (s : PlainDay) (m : ℕ) : Type 0 where
    pub clock : s.round ≤ S.rounds
    pub few : length s.standing ≤ max_bookings
    pub most : length s.standing ≤ m
    pub room : m ≤ min lent.places max_bookings
    pub sound : Sound S s.standing

  -- ---- one call

  pub record Matches (o : Outcome) (e : PlainOutcome) (old : List Line) (m : ℕ) : Type 0 where
    pub answer : o.answer ≡ e.answer
    pub report : o.report ≡ written e.lines old
    pub state : o.state ≡ expected S lent e.after (max m (length e.after.standing))
    pub good : Good e.after (max m (length e.after.standing))
