-- `booking::start` meets its contract: a refusal before booking's own questions stands. Assumes nothing.
use Rattle.booking.specs.Placed.{standing-refused, residual}
use Rattle.booking.proofs.start.Goals as goal

pub returns-in_err-file-clause-leaves : goal.returns-in_err-file-clause-leaves
returns-in_err-file-clause-leaves c =
    let a = c.args in
    rw (residual c.from_residual.ensures)
    (standing-refused a.file.now a.desk.now a.sheet.now a.request _ c.in_err-file.ensures.number)
