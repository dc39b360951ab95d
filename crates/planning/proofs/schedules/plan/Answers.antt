-- Each return is the first "no" of the questions in their order.
use Rattle.std.proofs.Common.{length, not, ap, arith}
use Rattle.films.specs.Sizes.{sizes}
use Rattle.films.proofs.SizeLaws.{length-sizes}
use Rattle.limits.specs.declared.refusals.Refusal.TheVariants.{Prefetch, Reserve, NoRoom, NoSchedule}
use Rattle.retrieval.specs.Schedule.{sends}
use Rattle.retrieval.proofs.CarryLaws.{length-just_in_time}
use Rattle.retrieval.proofs.Stored.{length-sends_at}
use Rattle.planning.proofs.AnswerLaws.{plan-prefetch, plan-reserve, plan-room, plan-none, plan-passes, planned-refused, planned-written}
use Rattle.planning.proofs.schedules.plan.Goals as goal

pub returns-then-p-gt-MAX_PREFETCH : goal.returns-then-p-gt-MAX_PREFETCH
returns-then-p-gt-MAX_PREFETCH c =
    let a = c.args in
    let xs = sizes a.film.now.file.now a.film.now.at a.film.now.rounds in
    planned-refused xs a.p a.b a.out.now Prefetch (plan-prefetch xs a.p a.b (length a.out.now) (omega arith))

pub returns-then-b-gt-MAX_RESERVE : goal.returns-then-b-gt-MAX_RESERVE
returns-then-b-gt-MAX_RESERVE c =
    let a = c.args in
    let xs = sizes a.film.now.file.now a.film.now.at a.film.now.rounds in
    planned-refused xs a.p a.b a.out.now Reserve (plan-reserve xs a.p a.b (length a.out.now) (omega arith) (omega arith))

pub returns-then-out-rounds : goal.returns-then-out-rounds
returns-then-out-rounds c =
    let a = c.args in
    let xs = sizes a.film.now.file.now a.film.now.at a.film.now.rounds in
    let lx = length-sizes a.film.now.file.now a.film.now.at a.film.now.rounds in
    planned-refused xs a.p a.b a.out.now NoRoom (plan-room xs a.p a.b (length a.out.now) (omega arith) (omega arith) (omega arith))

pub returns-then-not-exists : goal.returns-then-not-exists
returns-then-not-exists c =
    let a = c.args in
    let xs = sizes a.film.now.file.now a.film.now.at a.film.now.rounds in
    let lx = length-sizes a.film.now.file.now a.film.now.at a.film.now.rounds in
    planned-refused xs a.p a.b a.out.now NoSchedule
    (plan-none xs a.p a.b (length a.out.now) (omega arith) (omega arith) c.exists.result (omega arith) c.exists.ensures (ap not c.if-not-exists.true))

pub returns : goal.returns
returns c =
    let a = c.args in
    let z = a.film.now in
    let xs = sizes z.file.now z.at z.rounds in
    let lx = length-sizes z.file.now z.at z.rounds in
    planned-written xs a.p a.b a.out.now c.write_totals.new.out c.rounds-2.result
    (plan-passes xs a.p a.b (length a.out.now) (omega arith) (omega arith) c.exists.result (omega arith) c.exists.ensures (ap not c.if-not-exists.false))
    (omega (arith, length-just_in_time a.b 0 (sends a.p xs), length-sends_at z.file.now z.at z.rounds a.p))
    (rw c.rounds-2.ensures c.write_totals.ensures)
