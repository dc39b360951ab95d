-- `dropping::drop_standing` meets its contract: a name that is not there leaves everything, and the rest of a sound list is
-- sound, so that its sheet can be worked out. Assumes nothing.
use Rattle.std.proofs.Common.{refl, length}
use Rattle.questions.specs.Standing.{standing-held}
use Rattle.dropping.proofs.Laws.{name-refused, rest-stands, accepted-drops}
use Rattle.dropping.proofs.drop_standing.Goals as goal

pub remove-requires : goal.remove-requires
remove-requires c =
    let a = c.args in
    (standing-held a.film_file.now.bytes.now a.desk.now (length a.sheet.now.opens.now) (length a.sheet.now.reserves.now) (length a.sheet.now.helds.now) c.requires).few

pub returns-then-not-remove-clause-drops : goal.returns-then-not-remove-clause-drops
returns-then-not-remove-clause-drops c =
    let a = c.args in
    rw (c.number.ensures, c.if-not-remove.ensures.leaves) (name-refused a.film_file.now.bytes.now a.desk.now a.sheet.now a.name c.requires c.if-not-remove.ensures.found)

pub sum_standing-requires : goal.sum_standing-requires
sum_standing-requires c =
    let a = c.args in
    let r = c.if-not-remove.ensures in
    let rest = rw r.leaves at (r.standing refl) in
    rw r.leaves (rest-stands a.film_file.now.bytes.now a.desk.now a.sheet.now a.name c.requires r.found rest)

pub returns-clause-drops : goal.returns-clause-drops
returns-clause-drops c =
    let a = c.args in
    let r = c.if-not-remove.ensures in
    let rest = rw r.leaves at (r.standing refl) in
    rw r.leaves (accepted-drops a.film_file.now.bytes.now a.desk.now a.sheet.now a.name c.requires r.found rest c.sum_standing.new.sheet (rw r.leaves at c.sum_standing.ensures.summed))
