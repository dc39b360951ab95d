-- A schedule exists exactly if nothing is carried to before the first round.
use Rattle.retrieval.proofs.Minimality.{exists_by-test}
use Rattle.retrieval.specs.Stored.{sends_in}
use Rattle.retrieval.proofs.Schedule.exists.Goals as goal

pub returns : goal.returns
returns c =
    let z = c.args.self.now in
    exists_by-test z.reserve c.carry_from.result (sends_in z.sizes z.prefetch) c.carry_from.ensures.carried
