-- `booking::book` meets its contract: by the model's call the start is the first that fits. Assumes nothing.
use Rattle.model.specs.Code.{state_in}
use Rattle.model.proofs.FirstFit.{book-first}
use Rattle.questions.specs.Given.{setting_at}
use Rattle.booking.proofs.book.Goals as goal

pub returns-clause-first : goal.returns-clause-first
returns-clause-first c e =
    let a = c.args in
    let leaves = c.start.ensures.leaves in
    rw c.answer.ensures (rw leaves.answer (book-first (setting_at a.file.now a.desk.now.day) (state_in a.desk.now a.sheet.now) a.request e))
