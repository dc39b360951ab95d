-- `step::step` meets its contract, by the entry: a refused file gives its number, and with an accepted one the questions up to 16 pass.
use Rattle.std.proofs.Common.{Some, arith, sym, refl, ◌∙◌}
use Rattle.limits.proofs.Numbers.{number-not_zero}
use Rattle.questions.specs.Given.{setting_at}
use Rattle.model.specs.Code.{state_in}
use Rattle.replay.specs.declared.journal.Entry.TheVariants.{Book, Drop}
use Rattle.replay.proofs.FileLaws.{refused-verdict, asks, plays, carry}
use Rattle.replay.proofs.StepLaws.{file-steps, booked-steps, dropped-steps}
use Rattle.replay.proofs.step.step.Goals as goal

pub returns-in-Err-clause-steps : goal.returns-in-Err-clause-steps
returns-in-Err-clause-steps c =
    let x = c.args in
    let e = c.number-in-Err.ensures in
    rw c.in-Some.is
    (file-steps (setting_at x.file.now.bytes.now x.desk.now.day) x.desk.now x.sheet.now refl x.log.now c.append_answer-in-Err.new.self (omega arith) c.in-Some.call
    c.number-in-Err.result (refused-verdict x.file.now c.in-Err.refusal c.in-Err.is ∙ sym e) (λ z. number-not_zero c.in-Err.refusal (sym e ∙ z)) c.append_answer-in-Err.ensures.wrote)

pub book_standing-answer-requires : goal.book_standing-answer-requires
book_standing-answer-requires c = asks c.args.file.now c.in-Ok.films c.in-Ok.is c.args.desk.now c.args.sheet.now c.requires.between

pub drop_standing-answer-requires : goal.drop_standing-answer-requires
drop_standing-answer-requires c = asks c.args.file.now c.in-Ok.films c.in-Ok.is c.args.desk.now c.args.sheet.now c.requires.between

pub step_play-requires-clause-stands : goal.step_play-requires-clause-stands
step_play-requires-clause-stands c = plays c.args.file.now c.in-Ok.films c.in-Ok.is c.args.desk.now c.args.sheet.now c.requires.between

pub returns-in-Book-clause-steps : goal.returns-in-Book-clause-steps
returns-in-Book-clause-steps c =
    let x = c.args in
    let b = c.book_standing-answer in
    let w = c.append_answer-in-Book in
    rw (c.in-Some.is, c.in-Book.is)
    (carry x.file.now c.in-Ok.films c.in-Ok.is x.desk.now x.sheet.now (Some (Book c.in-Book.request)) x.log.now _ b.new.desk b.new.sheet w.new.self
    (booked-steps (setting_at c.in-Ok.films.bytes.now x.desk.now.day) (state_in x.desk.now x.sheet.now) x.log.now b.new.desk b.new.sheet w.new.self b.result (omega arith) w.ensures.wrote
    c.in-Book.request b.ensures.leaves b.ensures.places))

pub returns-in-Drop-clause-steps : goal.returns-in-Drop-clause-steps
returns-in-Drop-clause-steps c =
    let x = c.args in
    let b = c.drop_standing-answer in
    let w = c.append_answer-in-Drop in
    rw (c.in-Some.is, c.in-Drop.is)
    (carry x.file.now c.in-Ok.films c.in-Ok.is x.desk.now x.sheet.now (Some (Drop c.in-Drop.name)) x.log.now _ b.new.desk b.new.sheet w.new.self
    (dropped-steps (setting_at c.in-Ok.films.bytes.now x.desk.now.day) (state_in x.desk.now x.sheet.now) x.log.now b.new.desk b.new.sheet w.new.self b.result (omega arith) w.ensures.wrote
    c.in-Drop.name b.ensures.drops))
