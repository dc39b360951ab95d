use Rattle.std.proofs.Common.{sym, ◌∙◌}
use Rattle.films.proofs.SizeLaws.{get_or-sizes}
use Rattle.films.proofs.film.Sizes.get.Goals as goal

pub returns-clause-round : goal.returns-clause-round
returns-clause-round c =
    let z = c.args.self.now in
    c.size_at.ensures ∙ sym (get_or-sizes z.file.now z.at z.rounds c.args.i c.requires)

pub returns-clause-small : goal.returns-clause-small
returns-clause-small c =
    let z = c.args.self.now in
    rw (c.size_at.ensures, ← get_or-sizes z.file.now z.at z.rounds c.args.i c.requires) (z.stored.small c.args.i)
