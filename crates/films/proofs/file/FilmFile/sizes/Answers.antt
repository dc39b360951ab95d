use Rattle.std.proofs.Common.{◌∙◌}
use Rattle.films.proofs.LookupLaws.{entries-say}
use Rattle.films.proofs.file.FilmFile.sizes.Goals as goal

pub returns-in_err-place-clause-missing : goal.returns-in_err-place-clause-missing
returns-in_err-place-clause-missing c =
    let f = c.args.self.now in
    rw c.from_residual.ensures
    (rw c.in_err-place.was at (entries-say f.bytes.now _ c.args.film _ f.accepted (c.deref.ensures.0 ∙ f.catalogue) c.lookup.ensures))

pub invariant_of-result : goal.invariant_of-result
invariant_of-result c =
    let f = c.args.self.now in
    let says = rw c.in_ok-place.was at (entries-say f.bytes.now _ c.args.film _ f.accepted (c.deref.ensures.0 ∙ f.catalogue) c.lookup.ensures) in
    record { stored = says.stored }

pub returns-clause-found : goal.returns-clause-found
returns-clause-found c =
    let f = c.args.self.now in
    rw c.in_ok-place.was at (entries-say f.bytes.now _ c.args.film _ f.accepted (c.deref.ensures.0 ∙ f.catalogue) c.lookup.ensures)
