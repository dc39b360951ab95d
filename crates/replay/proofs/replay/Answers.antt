-- `replay` meets its contract: a refused opening changes nothing; after an accepted one the run by the model's calls is the plain
-- day's, for any decision which lists of bookings fit.
use Rattle.std.proofs.Common.{arith, Ok}
use Rattle.replay.proofs.OpeningLaws.{refused-positive, refused-lent, opened-pictured, opened-replays}
use Rattle.replay.proofs.replay.Goals as goal

pub returns-in-Refused-clause-replays : goal.returns-in-Refused-clause-replays
returns-in-Refused-clause-replays c fits =
    let x = c.args in
    let o = c.open in
    refused-lent x.file.now x.rounds x.disk x.memory x.desk.now x.sheet.now o.result o.new.day o.new.sheet c.default-day.result c.default-day.ensures
    o.ensures.opened c.in-Refused.number c.in-Refused.is fits x.journal.now x.log.now

pub returns-in-Refused-clause-numbered : goal.returns-in-Refused-clause-numbered
returns-in-Refused-clause-numbered c =
    let x = c.args in
    let o = c.open in
    refused-positive x.file.now x.rounds x.disk x.memory x.desk.now x.sheet.now o.result o.new.day o.new.sheet c.default-day.result c.default-day.ensures
    o.ensures.opened c.in-Refused.number c.in-Refused.is

pub run-requires : goal.run-requires
run-requires c =
    let x = c.args in
    let o = c.open in
    rw c.read-file.ensures
    (opened-pictured x.file.now x.rounds x.disk x.memory x.desk.now x.sheet.now o.result o.new.day o.new.sheet c.default-day.result c.default-day.ensures
    o.ensures.opened c.in_default.not-Refused (omega arith))

pub returns-clause-replays : goal.returns-clause-replays
returns-clause-replays c fits =
    let x = c.args in
    let o = c.open in
    let r = c.run.new in
    opened-replays x.file.now x.rounds x.disk x.memory x.desk.now x.sheet.now o.result o.new.day o.new.sheet c.default-day.result c.default-day.ensures
    o.ensures.opened c.in_default.not-Refused (omega arith) fits x.journal.now x.log.now (Ok c.run.result) r.desk r.sheet r.words
    (rw c.read-file.ensures at c.run.ensures.replays)
