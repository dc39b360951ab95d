-- `playing::play` meets its contract: a refusal before 23 stands, else the rest decides. Assumes nothing.
use Rattle.std.proofs.Common.{refl}
use Rattle.playing.specs.Laws.{standing-refused}
use Rattle.playing.proofs.play.Goals as goal

pub returns-in-Err-clause-plays : goal.returns-in-Err-clause-plays
returns-in-Err-clause-plays c =
    let a = c.args in
    rw c.refused.ensures.answer (standing-refused a.file.now a.desk.now a.room _ c.in-Err.ensures.number)

pub returns-in-Err-clause-lines : goal.returns-in-Err-clause-lines
returns-in-Err-clause-lines c = rw (c.refused.ensures.answer, c.refused.ensures.lines) refl
