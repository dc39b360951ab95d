-- `playing::play_standing` meets its contract: the bookings are sound, so that the lines can be made, and 23 and 11 decide.
-- Assumes nothing.
use Rattle.std.proofs.Common.{refl, arith}
use Rattle.playing.specs.Laws.{standing-ready, own-refused, plays-accepted}
use Rattle.playing.specs.LineLaws.{take-padded}
use Rattle.playing.proofs.play_standing.Goals as goal

pub lines_of-lines-requires : goal.lines_of-lines-requires
lines_of-lines-requires c = standing-ready c.args.film_file.now.bytes.now c.args.desk.now c.args.room c.requires

pub returns-in-Err-clause-plays : goal.returns-in-Err-clause-plays
returns-in-Err-clause-plays c =
    let a = c.args in
    rw c.refused.ensures.answer
    (own-refused a.film_file.now.bytes.now a.desk.now a.room c.requires c.lines_of-lines.result.items c.lines_of-lines.ensures _ (rw c.len-films.ensures.value at c.in-Err.ensures))

pub returns-in-Err-clause-lines : goal.returns-in-Err-clause-lines
returns-in-Err-clause-lines c = rw (c.refused.ensures.answer, c.refused.ensures.lines) refl

pub cabs_served-cabs-requires : goal.cabs_served-cabs-requires
cabs_served-cabs-requires c = (standing-ready c.args.film_file.now.bytes.now c.args.desk.now c.args.room c.requires).few

pub overflow_add-desk : goal.overflow_add-desk
overflow_add-desk c =
    let ready = standing-ready c.args.film_file.now.bytes.now c.args.desk.now c.args.room c.requires in
    record { fits = omega (arith, ready.today, ready.short) }

pub returns-clause-plays : goal.returns-clause-plays
returns-clause-plays c =
    let a = c.args in
    let lines = c.lines_of-lines.result.items in
    let none = rw c.len-films.ensures.value at c.in_default.ensures in
    rw (c.with_lines.ensures.answer, c.with_lines.ensures.lines, c.deref.ensures.0, c.len-films.ensures.value, take-padded lines)
    (plays-accepted a.film_file.now.bytes.now a.desk.now a.room c.requires lines c.lines_of-lines.ensures c.cabs_served-cabs.result none c.cabs_served-cabs.ensures)

pub returns-clause-lines : goal.returns-clause-lines
returns-clause-lines c =
    rw (c.with_lines.ensures.answer, c.with_lines.ensures.lines, c.deref.ensures.0, c.len-films.ensures.value, take-padded c.lines_of-lines.result.items) refl
