use Rattle.std.proofs.Common.{◌≡◌, ◌-◌, sym, ap, ◌∙◌, arith}
use Rattle.laws.specs.Sums.{largest}
use Rattle.films.specs.Sizes.{sizes}
use Rattle.films.proofs.SizeLaws.{length-sizes}
use Rattle.retrieval.proofs.CarryLaws.{just_in_time-helds, prefetch-peak}
use Rattle.retrieval.specs.Stored.{sends_in}
use Rattle.retrieval.proofs.Stored.{drop-sizes, turn-held, turn-carry, turn-peak, held-bound}
use Rattle.retrieval.proofs.Schedule.peak.Goals as goal

pub loop-i-init : goal.loop-i-init
loop-i-init c =
    let z = c.args.self.now in
    let xs = sizes z.sizes.file.now z.sizes.at z.sizes.rounds in
    let none = drop-sizes z.sizes.file.now z.sizes.at z.sizes.rounds in
    record {
      carried = rw none;
      peak = rw none;
      left_small = omega arith;
      most_small = omega arith;
    }

pub loop-i-preserved : goal.loop-i-preserved
loop-i-preserved c =
    let z = c.args.self.now in
    let l = c.loop-i in
    let x = c.get in
    let xs = sizes z.sizes.file.now z.sizes.at z.sizes.rounds in
    let lx = length-sizes z.sizes.file.now z.sizes.at z.sizes.rounds in
    let held = turn-held z.reserve l.i l.left x.result xs (omega arith) (omega arith) l.invariant.carried x.ensures.round in
    let carried = turn-carry z.reserve l.i l.left x.result xs (omega arith) (omega arith) l.invariant.carried x.ensures.round in
    let most = turn-peak z.reserve l.i l.left x.result xs (omega arith) (omega arith) l.invariant.carried x.ensures.round in
    let small = held-bound z.sizes.file.now z.sizes.at z.sizes.rounds 0 z.reserve (l.i - 1) z.sizes.stored in
    record {
      carried = omega arith;
      peak = omega arith;
      left_small = omega arith;
      most_small = omega arith;
    }

pub returns : goal.returns
returns c =
    let z = c.args.self.now in
    let xs = sizes z.sizes.file.now z.sizes.at z.sizes.rounds in
    let e : c.loop-i.i ≡ 0 = omega arith in
    (rw e at c.loop-i.invariant.peak)
    ∙ sym (ap largest (just_in_time-helds z.reserve 0 (sends_in z.sizes z.prefetch)) ∙ prefetch-peak z.reserve z.prefetch xs)
