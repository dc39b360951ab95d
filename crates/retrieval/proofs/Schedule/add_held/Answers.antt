use Rattle.std.proofs.Common.{◌≡◌, ◌-◌, arith}
use Rattle.retrieval.proofs.Stored.{length-sends_at}
use Rattle.retrieval.proofs.SheetLaws.{added-none, turn-room, turn-added}
use Rattle.retrieval.proofs.Schedule.add_held.Goals as goal

pub loop-k-init : goal.loop-k-init
loop-k-init c = added-none c.requires

pub send_at-requires : goal.send_at-requires
send_at-requires c =
    let z = c.args.self.now in
    omega (arith, length-sends_at z.sizes.file.now z.sizes.at z.sizes.rounds z.prefetch)

pub overflow_add-held : goal.overflow_add-held
overflow_add-held c =
    omega (arith, turn-room c.send_at.result c.requires c.loop-k.invariant (omega arith) (omega arith) c.send_at.ensures.sent)

pub overflow_add-part : goal.overflow_add-part
overflow_add-part c =
    omega (arith, turn-room c.send_at.result c.requires c.loop-k.invariant (omega arith) (omega arith) c.send_at.ensures.sent)

pub carry_before-left-requires : goal.carry_before-left-requires
carry_before-left-requires c =
    let room = turn-room c.send_at.result c.requires c.loop-k.invariant (omega arith) (omega arith) c.send_at.ensures.sent in
    (omega arith, omega (arith, c.args.self.now.in_range.reserve))

pub loop-k-preserved : goal.loop-k-preserved
loop-k-preserved c =
    rw c.carry_before-left.ensures
    (turn-added c.send_at.result c.requires c.loop-k.invariant (omega arith) (omega arith) c.send_at.ensures.sent)

pub returns-clause-added : goal.returns-clause-added
returns-clause-added c =
    let e : c.loop-k.k - c.args.a ≡ 0 = omega arith in
    rw e at c.loop-k.invariant.added

pub returns-clause-carried : goal.returns-clause-carried
returns-clause-carried c =
    let e : c.loop-k.k ≡ c.args.a = omega arith in
    rw e at c.loop-k.invariant.carried
