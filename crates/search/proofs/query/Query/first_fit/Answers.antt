use Rattle.std.proofs.Common.{ap, sym, arith}
use Rattle.search.specs.Fit.{fits_at, answer_of}
use Rattle.search.specs.Seen.{seen}
use Rattle.search.proofs.WindowLaws.{first_found, none_found}
use Rattle.search.proofs.query.Query.first_fit.Goals as goal

pub returns-in-None : goal.returns-in-None
returns-in-None c =
    let q = seen c.args.self.now in
    let l = c.loop-c in
    sym (ap answer_of (first_found (fits_at q) c.args.first c.args.self.now.last l.c.start l.invariant.from (omega arith) l.invariant.none c.in-None.ensures))

pub returns : goal.returns
returns c =
    let q = seen c.args.self.now in
    let l = c.loop-c in
    sym (ap answer_of (none_found (fits_at q) c.args.first c.args.self.now.last l.c.start (omega arith) l.invariant.none))
