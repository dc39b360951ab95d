use Rattle.std.proofs.Common.{◌≡◌, ◌-◌, sym, ◌∙◌, arith}
use Rattle.retrieval.specs.Stored.{sends_in}
use Rattle.retrieval.proofs.Stored.{length-sends_at, drop_all, turn-held, turn-carry, held-bound}
use Rattle.retrieval.proofs.Schedule.carry_from.Goals as goal

pub loop-k-init : goal.loop-k-init
loop-k-init c =
    let z = c.args.self.now in
    let lx = length-sends_at z.sizes.file.now z.sizes.at z.sizes.rounds z.prefetch in
    record {
      from = omega arith;
      carried = sym (drop_all (sends_in z.sizes z.prefetch) c.rounds-k.result z.reserve (omega arith));
      small = omega arith;
    }

pub loop-k-preserved : goal.loop-k-preserved
loop-k-preserved c =
    let z = c.args.self.now in
    let l = c.loop-k in
    let x = c.send_at in
    let xs = sends_in z.sizes z.prefetch in
    let lx = length-sends_at z.sizes.file.now z.sizes.at z.sizes.rounds z.prefetch in
    let held = turn-held z.reserve l.k l.left x.result xs (omega arith) (omega arith) l.invariant.carried x.ensures.sent in
    let small = held-bound z.sizes.file.now z.sizes.at z.sizes.rounds z.prefetch z.reserve (l.k - 1) z.sizes.stored in
    record {
      from = omega arith;
      carried =
          c.carry_before-left.ensures
          ∙ turn-carry z.reserve l.k l.left x.result xs (omega arith) (omega arith) l.invariant.carried x.ensures.sent;
      small = omega arith;
    }

pub returns-clause-carried : goal.returns-clause-carried
returns-clause-carried c =
    let e : c.loop-k.k ≡ c.args.t = omega arith in
    rw e at c.loop-k.invariant.carried
