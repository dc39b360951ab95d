-- `console::calls::carry_out` meets its contract, by cases on the command. Assumes nothing.
use Rattle.std.proofs.Common.{refl}
use Rattle.films.specs.Questions.{verdict}
use Rattle.films.specs.Decode.{films_of}
use Rattle.limits.specs.Bounds.{hall_places}
use Rattle.console.proofs.Carrying.{open-carries, book-carries, drop-carries, play-carries, none-carries}
use Rattle.console.proofs.calls.carry_out.Goals as goal

pub returns-in-Open-clause-carried : goal.returns-in-Open-clause-carried
returns-in-Open-clause-carried c =
    let a = c.args in
    let it = c.in-Open in
    let opens = c.«open».ensures.opened (verdict a.file.now) (films_of a.file.now) a.desk.now.rows hall_places in
    rw (c.in-Some.is, it.is, c.without_lines-in-Open.ensures)
    (open-carries a.file.now a.desk.now a.sheet.now it.rounds it.disk it.memory c.«open».result _ c.«open».new.sheet refl opens)

pub returns-in-Book-clause-carried : goal.returns-in-Book-clause-carried
returns-in-Book-clause-carried c =
    let a = c.args in
    let it = c.in-Book in
    rw (c.in-Some.is, it.is, c.without_lines-in-Book.ensures)
    (book-carries a.file.now a.desk.now a.sheet.now it.request c.book.result c.book.new.desk c.book.new.sheet c.book.ensures.leaves)

pub returns-in-Drop-clause-carried : goal.returns-in-Drop-clause-carried
returns-in-Drop-clause-carried c =
    let a = c.args in
    let it = c.in-Drop in
    let dropped = c.drop_booking in
    rw (c.in-Some.is, it.is, c.without_lines-in-Drop.ensures)
    (drop-carries a.file.now a.desk.now a.sheet.now it.name dropped.result dropped.new.desk dropped.new.sheet dropped.ensures.drops)

pub returns-in-Play-clause-carried : goal.returns-in-Play-clause-carried
returns-in-Play-clause-carried c =
    let a = c.args in
    let it = c.in-Play in
    let played = c.play in
    rw (c.in-Some.is, it.is)
    (play-carries a.file.now a.desk.now a.sheet.now played.result played.new.desk played.ensures.plays played.ensures.lines)

pub returns-in_default-clause-carried : goal.returns-in_default-clause-carried
returns-in_default-clause-carried c =
    let a = c.args in
    rw (c.in_default.is, c.without_lines.ensures, c.number.ensures) (none-carries a.file.now a.desk.now a.sheet.now _ refl refl)
