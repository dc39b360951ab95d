-- `dropping::standing::sum_standing` meets its contract: the streams of a sound list are playable, and what they hold in a
-- round, the bookings do. Assumes nothing.
use Rattle.std.proofs.Common.{take}
use Rattle.questions.specs.ListSound.{streams-made}
use Rattle.dropping.proofs.StandingLaws.{stands-summable, summed-worked}
use Rattle.dropping.proofs.standing.sum_standing.Goals as goal

pub sum_sheet-requires : goal.sum_sheet-requires
sum_sheet-requires c =
    let file = c.args.film_file.now in
    let desk = c.args.desk.now in
    let xs = c.streams_of-xs.result.items in
    let made = streams-made file.bytes.now (take desk.day.count desk.rows) file.films.items _ xs file.accepted file.catalogue c.deref.ensures.0 c.streams_of-xs.ensures in
    rw c.deref-2.ensures.0 (stands-summable file.bytes.now desk c.args.sheet.now c.requires file.accepted xs made)

pub returns-clause-summed : goal.returns-clause-summed
returns-clause-summed c =
    let file = c.args.film_file.now in
    let desk = c.args.desk.now in
    let xs = c.streams_of-xs.result.items in
    let made = streams-made file.bytes.now (take desk.day.count desk.rows) file.films.items _ xs file.accepted file.catalogue c.deref.ensures.0 c.streams_of-xs.ensures in
    let after = c.sum_sheet.new.sheet in
    summed-worked file.bytes.now desk c.args.sheet.now c.requires file.accepted xs made after.opens.now after.reserves.now after.helds.now
    (rw c.deref-2.ensures.0 at c.sum_sheet.ensures.summed)
