use Rattle.std.proofs.Common.{◌≡◌, arith}
use Rattle.retrieval.proofs.ReserveLaws.{serves_by-yes, serves_by-no, serves-above}
use Rattle.retrieval.specs.Stored.{sends_in}
use Rattle.planning.proofs.reserves.search.Goals as goal

pub loop-lo-preserved-then-serves : goal.loop-lo-preserved-then-serves
loop-lo-preserved-then-serves c =
    let z = c.args.film.now in
    let l = c.loop-lo in
    record {
      order = omega arith;
      within = omega arith;
      serves = serves_by-yes c.serves.result (sends_in z.sizes z.prefetch) c.args.cap _ c.serves.ensures c.if-serves.true;
      least = l.invariant.least;
    }

pub loop-lo-preserved : goal.loop-lo-preserved
loop-lo-preserved c =
    let z = c.args.film.now in
    let l = c.loop-lo in
    let xs = sends_in z.sizes z.prefetch in
    record {
      order = omega arith;
      within = omega arith;
      serves = l.invariant.serves;
      least = serves-above xs c.args.cap _ (serves_by-no c.serves.result xs c.args.cap _ c.serves.ensures c.if-serves.false);
    }

pub returns : goal.returns
returns c =
    let l = c.loop-lo in
    let e : l.hi ≡ l.lo = omega arith in
    record { serves = rw e at l.invariant.serves; least = l.invariant.least }
