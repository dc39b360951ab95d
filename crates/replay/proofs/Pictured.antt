-- What a replay finds between two entries: the lent day is the one that the plain day expects, so that 14, 15, 11 and 16 would pass and
-- need not be asked. Assumes nothing.
use Rattle.std.specs.Prelude.{◌≡◌, Option, List, ℕ, max, length}
use Rattle.std.proofs.Common.{ap, ◌∙◌, arith}
use borrow.Author.Tests.{le-leb}
use Rattle.laws.specs.Questions.{refusal}
use Rattle.films.specs.Questions.{verdict}
use Rattle.model.specs.Day.{Setting, State}
use Rattle.model.specs.Calls.{rounds_in_range, day_in_range, limits_in_range, sheet_long, sound}
use Rattle.model.specs.Code.{state_of}
use Rattle.model.specs.PlainDay.{at_first}
use Rattle.model.specs.Expected.{expected}
use Rattle.model.proofs.FitLaws.{dec_fits}
use Rattle.model.specs.Steps.{Accepted}
use Rattle.model.proofs.Steps.{seen}
use Rattle.model.proofs.Runs.{good-first}
use Rattle.model.specs.Claim.{InBetween}
use Rattle.model.specs.declared.Desk.{Desk}
use Rattle.questions.specs.Given.{setting_at}
use Rattle.questions.specs.Numbers.{rounds_hold, day_holds, limits_hold, sheet_holds, sound_holds, standing_asks}
use Rattle.replay.specs.PlainRun.{plain_entry}
use Rattle.replay.specs.DeskRun.{carried}
use Rattle.replay.proofs.RunLaws.{entry-step}
use Rattle.replay.specs.declared.journal.Entry.{Entry}
use Rattle.replay.specs.Pictured.{Pictured}

pub pictured-first : (S : Setting) (lent d : State) → Accepted S lent → d ≡ expected S lent at_first 0 → Pictured S d
pictured-first S lent d a e = record { lent = lent; accepted = a; plain = at_first; taken = 0; good = good-first S lent (dec_fits S) a; is = e }

pub pictured-between : (S : Setting) (d : State) → Pictured S d → InBetween S d
pictured-between S d p =
    let v = seen S p.lent (dec_fits S) p.accepted p.plain p.taken p.good in
    rw p.is (record { day = v.clock; limits = p.accepted.limits; sheet = v.sheet; list = v.sound })

-- each entry keeps it so
pub pictured-next : (S : Setting) (d : State) → Pictured S d → (e : Option Entry) → Pictured S (carried S d e).state
pictured-next S d p e =
    let o = plain_entry S p.lent.places (dec_fits S) p.plain e in
    let v = entry-step S p.lent (dec_fits S) p.accepted p.plain p.taken p.good e in
    record {
      lent = p.lent;
      accepted = p.accepted;
      plain = o.after;
      taken = max p.taken (length o.after.standing);
      good = v.good;
      is = ap (λ (t : State). (carried S t e).state) p.is ∙ v.state;
    }

module _ (f : List ℕ) (desk : Desk) (o r h : List ℕ) (accepted : verdict f ≡ 0)
    (b : InBetween (setting_at f desk.day) (state_of desk.day desk.rows desk.places o r h)) where
  -- no question before booking's and drop's own says no
  pub between-asks : refusal (standing_asks f desk (length o) (length r) (length h)) ≡ 0
  unfolding standing_asks day_holds rounds_hold limits_hold sheet_holds sound_holds day_in_range rounds_in_range limits_in_range sheet_long sound
  between-asks = rw (b.day, b.limits, b.sheet, b.list, accepted)

  -- nor before play's, which is lent no sheet
  pub between-plays : refusal (standing_asks f desk desk.day.rounds desk.day.rounds desk.day.rounds) ≡ 0
  unfolding standing_asks day_holds rounds_hold limits_hold sheet_holds sound_holds day_in_range rounds_in_range limits_in_range sheet_long sound
  between-plays = rw (b.day, b.limits, le-leb desk.day.rounds desk.day.rounds (omega arith), b.list, accepted)
