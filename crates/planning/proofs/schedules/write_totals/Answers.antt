use Rattle.std.proofs.Common.{◌≡◌, ◌∷◌, ◌≤◌, ◌<◌, ◌-◌, ◌+◌, length, get_or, sym, ◌∙◌, arith}
use Rattle.laws.specs.Sums.{sum}
use Rattle.films.specs.Sizes.{sizes}
use Rattle.retrieval.specs.Schedule.{totals}
use Rattle.retrieval.specs.JustInTime.{just_in_time}
use Rattle.retrieval.proofs.CarryLaws.{length-just_in_time}
use Rattle.retrieval.specs.Stored.{sends_in}
use Rattle.retrieval.proofs.Stored.{length-sends_at}
use Rattle.retrieval.proofs.SheetLaws.{onto_from-none, turn-write, written}
use Rattle.planning.proofs.Written.{sum-sends, totals-sum, turn-sent, start-rule, turn-rule}
use Rattle.planning.proofs.schedules.write_totals.Goals as goal

pub loop-k-init : goal.loop-k-init
loop-k-init c =
    let z = c.args.film.now in
    let xs = sends_in z.sizes z.prefetch in
    let lx = length-sends_at z.sizes.file.now z.sizes.at z.sizes.rounds z.prefetch in
    let n : c.rounds-k.result ≡ length xs = omega arith in
    let total : c.total-sent.result ≡ sum xs =
    c.total-sent.ensures.sum ∙ sym (sum-sends z.prefetch (sizes z.sizes.file.now z.sizes.at z.sizes.rounds)) in
    let last : get_or (0 ∷ totals 0 xs) c.rounds-k.result 0 ≡ 0 + sum xs = rw n (totals-sum 0 xs) in
    record {
      sends = omega arith;
      sent_small = c.total-sent.ensures.small;
      due_small = c.total-sent.ensures.small;
      rule = λ h. start-rule z.reserve c.rounds-k.result c.total-sent.result xs h n total;
      laid =
          sym (onto_from-none c.rounds-k.result (λ x r. r) c.args.out.now (just_in_time z.reserve 0 xs)
          (omega (arith, length-just_in_time z.reserve 0 xs)));
    }

pub overflow_sub-sent : goal.overflow_sub-sent
overflow_sub-sent c =
    let z = c.args.film.now in
    let l = c.loop-k in
    let xs = sends_in z.sizes z.prefetch in
    let lx = length-sends_at z.sizes.file.now z.sizes.at z.sizes.rounds z.prefetch in
    omega (
      arith,
      turn-sent l.k c.send_at-sent.result l.sent xs (omega arith) (omega arith) l.invariant.sends c.send_at-sent.ensures.sent,
    )

pub loop-k-preserved : goal.loop-k-preserved
loop-k-preserved c =
    let z = c.args.film.now in
    let l = c.loop-k in
    let x = c.send_at-sent in
    let xs = sends_in z.sizes z.prefetch in
    let due = c.larger.result - z.reserve in
    let rule-totals = just_in_time z.reserve 0 xs in
    let lx = length-sends_at z.sizes.file.now z.sizes.at z.sizes.rounds z.prefetch in
    let lt = length-just_in_time z.reserve 0 xs in
    let positive : 0 < l.k = omega arith in
    let within : l.k ≤ length xs = omega arith in
    let sent = turn-sent l.k x.result l.sent xs positive within l.invariant.sends x.ensures.sent in
    let here : due ≡ get_or rule-totals (l.k - 1) 0 = omega (arith, l.invariant.rule positive) in
    record {
      sends = omega arith;
      sent_small = omega arith;
      due_small = omega arith;
      rule = λ h. turn-rule z.reserve l.k due (l.sent - x.result) xs h within here (omega arith);
      laid = turn-write l.k due (λ x r. r) c.args.out.now rule-totals l.out positive (omega arith) l.invariant.laid here;
    }

pub returns : goal.returns
returns c =
    let z = c.args.film.now in
    let xs = sends_in z.sizes z.prefetch in
    let lx = length-sends_at z.sizes.file.now z.sizes.at z.sizes.rounds z.prefetch in
    let e : c.loop-k.k ≡ 0 = omega arith in
    written (z.prefetch + z.sizes.rounds) (just_in_time z.reserve 0 xs) c.args.out.now c.loop-k.out
    (omega (arith, length-just_in_time z.reserve 0 xs)) c.requires (rw e at c.loop-k.invariant.laid)
