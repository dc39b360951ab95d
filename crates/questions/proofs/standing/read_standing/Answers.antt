-- `questions::standing::read_standing` meets its contract: a refusal of the file stands. Assumes nothing.
use Rattle.std.proofs.Common.{sym}
use Rattle.limits.proofs.Numbers.{number-from_residual}
use Rattle.questions.specs.Standing.{file-first}
use Rattle.questions.proofs.standing.read_standing.Goals as goal

pub returns-in_err-film_file-clause-number : goal.returns-in_err-film_file-clause-number
returns-in_err-film_file-clause-number c =
    let a = c.args in
    number-from_residual _ _ _ c.from_residual.ensures
    (sym (file-first a.file.now a.desk.now a.opens a.reserves a.helds _ c.in_err-film_file.ensures.verdict))
