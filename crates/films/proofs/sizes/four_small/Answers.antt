use Rattle.films.proofs.FourLaws.{four-small}
use Rattle.films.proofs.sizes.four_small.Goals as goal

pub returns : goal.returns
returns c = four-small c.args.file.now c.args.at (λ k. (c.type_inv.file k).fits)
