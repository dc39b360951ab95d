-- `search::query::Query::disk_free` meets its contract: no sum of the day's reserves and losses grows too large. Assumes nothing.
use Rattle.std.proofs.Common.{◌≤◌, arith}
use Rattle.loss.specs.Rising.{max_loss}
use Rattle.loss.proofs.Rising.{loss-bound}
use Rattle.search.proofs.query.Query.disk_free.Goals as goal

pub overflow_add-result-2 : goal.overflow_add-result-2
overflow_add-result-2 c =
    let q = c.args.self.now in
    let lost : c.loss.result ≤ max_loss = rw c.loss.ensures (loss-bound _) in
    let reserved = q.walks.window.disk.reserves-small c.args.t c.requires in
    record { fits = omega (arith, q.walks.reserve) }
