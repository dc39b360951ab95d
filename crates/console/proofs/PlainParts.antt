-- What a session's calls have in common with the plain day's: the lines told, and the places of the list and of the sheet. Assumes
-- nothing.
use Rattle.std.specs.Prelude.{◌≡◌, refl, Bool, true, false, ◌&&◌, List, [], ◌∷◌, ℕ, zero, suc, ◌≤◌, leb, length, take, drop}
use Rattle.std.proofs.Common.{ap₂, ◌∙◌, arith, length-append, length-drop, take_at, leb-true}
use Rattle.std.proofs.lemmas.List.{length-replicate}
use Rattle.limits.specs.Bounds.{max_bookings, hall_rounds, hall_places}
use Rattle.limits.specs.Refusals.{no_room, day_rounds, day_limits}
use Rattle.laws.specs.Questions.{Question, refusal, refusal-held}
use Rattle.model.specs.Day.{Setting}
use Rattle.model.specs.Fit.{Fits, Found, nowhere, at}
use Rattle.model.specs.Report.{written}
use Rattle.model.specs.Calls as C
use Rattle.model.specs.Calls.{Outcome, worked_out, rounds_in_range, limits_in_range, sheet_long, open_questions}
use Rattle.model.specs.PlainDay.{PlainDay, PlainOutcome, Arguments, booking, dropping, playing, plain_number, plain_start, plain_book, plain_drop, plain_play, plain_call}
use Rattle.model.proofs.PlacesLaws.{length-per_round}
use Rattle.model.specs.declared.Booking.{Booking}
use Rattle.model.specs.declared.Line.{Line}
use Rattle.model.specs.declared.Answer.{Answer}
use Rattle.playing.specs.Contract.{lines_in}
use Rattle.console.specs.Session.{SessionState, at_start, lent_by, lines_told}
use Rattle.console.specs.PlainSession.{open_number}
use Rattle.console.specs.PlainParts.{Places}

module _ (S : Setting) (fits : (bs : List Booking) → Dec (Fits S bs)) (p : PlainDay) where
  -- ---- The plain day tells as many lines as it answers

  pub plain-count : (c : Arguments) → length (plain_call S hall_places fits p c).lines ≡ lines_in (plain_call S hall_places fits p c).answer
  plain-count (booking q) = go (plain_number S hall_places fits p (booking q)) (plain_start S hall_places fits p q)
    where
      go : (n : ℕ) (o : Found) → length (plain_book S hall_places fits p q n o).lines ≡ lines_in (plain_book S hall_places fits p q n o).answer
      go zero (at x) = refl
      go zero nowhere = refl
      go (suc k) o = refl
  plain-count (dropping name) = go (plain_number S hall_places fits p (dropping name))
    where
      go : (n : ℕ) → length (plain_drop S hall_places fits p name n).lines ≡ lines_in (plain_drop S hall_places fits p name n).answer
      go zero = refl
      go (suc k) = refl
  plain-count (playing room) = go (plain_number S hall_places fits p (playing room))
    where
      go : (n : ℕ) → length (plain_play S hall_places fits p n).lines ≡ lines_in (plain_play S hall_places fits p n).answer
      go zero = refl
      go (suc k) = refl

-- so the lines told are the plain day's
pub told_same : (o : Outcome) (e : PlainOutcome) (old : List Line) → o.answer ≡ e.answer → o.report ≡ written e.lines old
    → length e.lines ≡ lines_in e.answer → lines_told o ≡ e.lines
told_same o e old a r n =
    ap₂ (λ (x : Answer) (ls : List Line). take (lines_in x) ls) a r
    ∙ take_at e.lines (drop (length e.lines) old) (lines_in e.answer) n

pub start-places : Places at_start
start-places =
    record {
      rows = length-replicate {A = Booking} max_bookings C.no_booking;
      opens = length-replicate {A = ℕ} hall_rounds 0;
      reserves = length-replicate {A = ℕ} hall_rounds 0;
      helds = length-replicate {A = ℕ} hall_rounds 0;
    }

pub worked-places : (n : ℕ) (f : ℕ → ℕ) (old : List ℕ) → n ≤ hall_rounds → length old ≡ hall_rounds → length (worked_out n f old) ≡ hall_rounds
worked-places n f old h e =
    omega (arith, length-append (C.per_round f 0 n) (drop n old), length-per_round f 0 n, length-drop n old)

-- the sheet's lists are as long as each other, so that 11 is asked of one of them
all-long : (t : Bool) → t && (t && t) ≡ t
all-long true = refl
all-long false = refl

pub open-number : (S : Setting) (s : SessionState) → Places s → refusal (open_questions S (lent_by s)) ≡ open_number S
unfolding open_questions sheet_long open_number
open-number S s w = rw (w.opens, w.reserves, w.helds, all-long (leb S.rounds hall_rounds))

pub open-short : (S : Setting) → open_number S ≡ 0 → S.rounds ≤ hall_rounds
unfolding open_number
open-short S e =
    let q11 : List Question = (leb S.rounds hall_rounds, no_room) ∷ [] in
    let q15 : List Question = (limits_in_range S, day_limits) ∷ q11 in
    let a14 = refusal-held (rounds_in_range S) day_rounds q15 (omega arith) e in
    let a15 = refusal-held (limits_in_range S) day_limits q11 (omega arith) a14.1 in
    leb-true S.rounds hall_rounds (refusal-held (leb S.rounds hall_rounds) no_room [] (omega arith) a15.1).0
