use Rattle.std.proofs.Common.{◌≡◌, ◌≤◌, ◌-◌, sym, mul-le-mul, arith}
use Rattle.laws.specs.Sums.{largest}
use Rattle.films.specs.Sizes.{sizes}
use Rattle.films.proofs.SizeLaws.{length-sizes}
use Rattle.retrieval.specs.Carry.{carry, profile}
use Rattle.retrieval.proofs.ReserveLaws.{serves_by-over, serves_by-test}
use Rattle.retrieval.proofs.Stored.{drop-sizes, turn-held, turn-carry, turn-peak, held-bound}
use Rattle.planning.proofs.reserves.serves.Goals as goal

pub loop-i-init : goal.loop-i-init
loop-i-init c =
    let z = c.args.film.now in
    let none = drop-sizes z.sizes.file.now z.sizes.at z.sizes.rounds in
    record { carried = rw none; peak = rw none (omega arith); small = omega arith }

pub returns-then-cap-held : goal.returns-then-cap-held
returns-then-cap-held c =
    let z = c.args.film.now in
    let l = c.loop-i in
    let x = c.get in
    let xs = sizes z.sizes.file.now z.sizes.at z.sizes.rounds in
    let lx = length-sizes z.sizes.file.now z.sizes.at z.sizes.rounds in
    let held = turn-held z.reserve l.i l.left x.result xs (omega arith) (omega arith) l.invariant.carried x.ensures.round in
    sym (serves_by-over z.prefetch c.args.cap z.reserve (l.i - 1) xs (omega arith))

pub loop-i-preserved : goal.loop-i-preserved
loop-i-preserved c =
    let z = c.args.film.now in
    let l = c.loop-i in
    let x = c.get in
    let xs = sizes z.sizes.file.now z.sizes.at z.sizes.rounds in
    let lx = length-sizes z.sizes.file.now z.sizes.at z.sizes.rounds in
    let held = turn-held z.reserve l.i l.left x.result xs (omega arith) (omega arith) l.invariant.carried x.ensures.round in
    let carried = turn-carry z.reserve l.i l.left x.result xs (omega arith) (omega arith) l.invariant.carried x.ensures.round in
    let most = turn-peak z.reserve l.i l.left x.result xs (omega arith) (omega arith) l.invariant.carried x.ensures.round in
    let small = held-bound z.sizes.file.now z.sizes.at z.sizes.rounds 0 z.reserve (l.i - 1) z.sizes.stored in
    record { carried = omega arith; peak = omega arith; small = omega arith }

pub overflow_mul-result : goal.overflow_mul-result
overflow_mul-result c =
    let z = c.args.film.now in
    omega (arith, mul-le-mul z.in_range.prefetch z.in_range.reserve)

pub returns : goal.returns
returns c =
    let z = c.args.film.now in
    let xs = sizes z.sizes.file.now z.sizes.at z.sizes.rounds in
    let e : c.loop-i.i ≡ 0 = omega arith in
    let q : largest (profile z.reserve xs) ≤ c.args.cap = rw e at c.loop-i.invariant.peak in
    let k : c.loop-i.left ≡ carry z.reserve xs = rw e at c.loop-i.invariant.carried in
    serves_by-test z.prefetch c.args.cap z.reserve c.loop-i.left xs q k
