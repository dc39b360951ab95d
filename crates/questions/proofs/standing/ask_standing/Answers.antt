-- `questions::standing::ask_standing` meets its contract: a refusal of 14, 15 or 11 stands, and else 16 decides. Assumes nothing.
use Rattle.std.proofs.Common.{sym, ◌∙◌}
use Rattle.limits.proofs.Numbers.{number-from_residual}
use Rattle.questions.specs.Standing.{day-held, day-first, day-after}
use Rattle.questions.proofs.standing.ask_standing.Goals as goal

pub returns-in_err-ask_day : goal.returns-in_err-ask_day
returns-in_err-ask_day c =
    let file = c.args.file.now in
    number-from_residual _ _ _ c.from_residual.ensures
    (day-first file.bytes.now c.args.desk.now _ _ _ file.accepted c.in_err-ask_day.field-0.0 c.in_err-ask_day.ensures)

pub sound_holds-requires : goal.sound_holds-requires
sound_holds-requires c = (day-held c.args.desk.now.day _ _ _ (sym c.in_ok-ask_day.ensures)).rounds

pub returns-then-not-sound_holds : goal.returns-then-not-sound_holds
returns-then-not-sound_holds c =
    let file = c.args.file.now in
    rw (day-after file.bytes.now c.args.desk.now _ _ _ file.accepted c.in_ok-ask_day.ensures, sym c.sound_holds.ensures ∙ c.if-not-sound_holds.true)

pub returns : goal.returns
returns c =
    let file = c.args.file.now in
    rw (day-after file.bytes.now c.args.desk.now _ _ _ file.accepted c.in_ok-ask_day.ensures, sym c.sound_holds.ensures ∙ c.if-not-sound_holds.false)
