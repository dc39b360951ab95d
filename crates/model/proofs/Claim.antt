-- The claim of the whole list (demand 3): "For every list of calls (bookings, drops and played rounds, refused ones too) on
-- a day opened empty, with one film file and fixed limits, where each call takes the day as the last one left it and nobody
-- else writes it, every answer and report line, and the records, sheet and round at the end, are those of the plain day in
-- document 01."
use Rattle.std.specs.Prelude.{◌≡◌, List, map, ◌≤◌, min, max, length}
use Rattle.std.proofs.Common.{ap, ◌∙◌, arith}
use Rattle.limits.specs.Bounds.{max_bookings}
use Rattle.model.specs.Day.{Setting, State}
use Rattle.model.specs.Fit.{Fits}
use Rattle.model.specs.Calls.{open_call, Call}
use Rattle.model.specs.PlainDay.{at_first, plain_after, ever_taken}
use Rattle.model.specs.Expected.{arguments_of, expected}
use Rattle.model.specs.Loss.{Rising}
use Rattle.model.proofs.Steps.{seen}
use Rattle.model.proofs.Runs.{runs, good-first, opened-accepted, opened-expected}
use Rattle.model.specs.declared.Booking.{Booking}
use Rattle.model.specs.declared.Answer.TheVariants.{Opened}
use Rattle.model.specs.Claim.{SameDay}

-- For every setting (film file, verdict, limits), everything lent, and every list of calls after an accepted opening.
-- Assumes of the loss that it rises, as the papers' table does (Loss.antt), and of the lent records that they are as many
-- as the list is long, or 256.
pub same-day : (S : Setting) (lent : State) (fits : (bs : List Booking) → Dec (Fits S bs)) → Rising S.loss
    → min lent.places max_bookings ≤ length lent.records → (open_call S lent).answer ≡ Opened → (cs : List Call) → SameDay S lent fits cs
same-day S lent fits rising room opened cs =
    let a = opened-accepted S lent rising room opened in
    let r = runs S lent fits a cs at_first 0 (good-first S lent fits a) in
    let s = plain_after S lent.places fits at_first (map arguments_of cs) in
    let taken = ever_taken S lent.places fits at_first (map arguments_of cs) in
    let v = seen S lent fits a s (max 0 taken) r.good in
    let x : max 0 taken ≡ taken = omega arith in
    let first = opened-expected S lent opened in
    record {
      answered = rw first r.answered;
      reported = rw first r.reported;
      ended = rw first (r.ended ∙ ap (expected S lent s) x);
      between = rw (first, r.ended) (record { day = v.clock; limits = a.limits; sheet = v.sheet; list = v.sound });
    }
