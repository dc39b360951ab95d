-- `booking::start_standing` meets its contract: booking's own questions decide, and where none says no the request is placed.
-- Assumes nothing.
use Rattle.std.proofs.Common.{arith, length-take}
use Rattle.questions.specs.Standing.{standing-held}
use Rattle.booking.specs.Placed.{own-refused, own-passed, passed-by, residual}
use Rattle.booking.proofs.start_standing.Goals as goal

pub ask_own-requires : goal.ask_own-requires
ask_own-requires c =
    let s = standing-held c.args.file.now.bytes.now c.args.desk.now _ _ _ c.requires in
    (s.few, s.rounds)

pub returns-in_err-ask_own-clause-leaves : goal.returns-in_err-ask_own-clause-leaves
returns-in_err-ask_own-clause-leaves c =
    let a = c.args in
    rw (residual c.from_residual.ensures)
    (own-refused a.file.now.bytes.now a.desk.now a.sheet.now a.request _ c.requires c.in_err-ask_own.ensures)

pub shared_ref_as_front-streams_of : goal.shared_ref_as_front-streams_of
shared_ref_as_front-streams_of c = (standing-held c.args.file.now.bytes.now c.args.desk.now _ _ _ c.requires).few

pub streams_of-standing-requires : goal.streams_of-standing-requires
streams_of-standing-requires c =
    let a = c.args in
    omega (arith, length-take a.desk.now.day.count a.desk.now.rows, (standing-held a.file.now.bytes.now a.desk.now _ _ _ c.requires).few)

pub place-requires : goal.place-requires
place-requires c =
    let a = c.args in
    passed-by a.file.now a.desk.now a.sheet.now a.request _ _ _ _
    (own-passed a.file.now.bytes.now a.desk.now a.sheet.now a.request c.requires c.in_ok-ask_own.ensures)
    c.deref.ensures.0 c.streams_of-standing.ensures c.deref-2.ensures.0 c.requested-stream.ensures
