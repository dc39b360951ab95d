-- Held is what the round sends and the carry of the rounds after it.
use Rattle.std.proofs.Common.{arith}
use Rattle.retrieval.proofs.RoundLaws.{round-carry}
use Rattle.retrieval.specs.Stored.{sends_in}
use Rattle.retrieval.proofs.Stored.{length-sends_at}
use Rattle.retrieval.proofs.Schedule.round_at.Goals as goal

pub returns : goal.returns
returns c =
    let z = c.args.self.now in
    let lx = length-sends_at z.sizes.file.now z.sizes.at z.sizes.rounds z.prefetch in
    round-carry z.reserve (sends_in z.sizes z.prefetch) c.args.t c.min.result c.send_at-send.result c.carry_from.result (omega arith)
    c.send_at-send.ensures.sent c.carry_from.ensures.carried c.min.ensures
