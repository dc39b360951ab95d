-- `film_calls::film_at` meets its contract: the numbers of the entry that a reader at the position gives. Assumes nothing.
use Rattle.std.proofs.Common.{ap, ◌∙◌}
use Rattle.reader.specs.declared.cursor.Reader.{Reader}
use Rattle.reader.specs.Reader.{Step, start_of, step_of}
use Rattle.interface.specs.FilmCalls.{film_of}
use Rattle.interface.proofs.film_calls.film_at.Goals as goal

pub returns : goal.returns
unfolding start_of
returns c =
    let a = c.args in
    c.from.ensures
    ∙ ap film_of
    (ap (λ (t : Step). t.entry) c.next.ensures.0
    ∙ ap (λ (r : Reader). (step_of a.file.now (record { refusal = r.refusal; position = a.position })).entry) c.start.ensures)
