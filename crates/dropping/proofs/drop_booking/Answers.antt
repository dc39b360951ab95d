-- `dropping::drop_booking` meets its contract: a refusal before 19 stands and leaves everything, else the rest decides. Assumes
-- nothing.
use Rattle.limits.proofs.Numbers.{number-not_zero}
use Rattle.dropping.proofs.Laws.{standing-refused}
use Rattle.dropping.proofs.drop_booking.Goals as goal

pub returns-in-Err-clause-drops : goal.returns-in-Err-clause-drops
returns-in-Err-clause-drops c =
    let a = c.args in
    rw c.number.ensures (standing-refused a.file.now a.desk.now a.sheet.now a.name _ c.in-Err.ensures.number (number-not_zero c.in-Err.refusal))
