use Rattle.std.proofs.Common.{sym, ◌∙◌, arith}
use Rattle.rounds.specs.CarryLaws.{carry-round, carry-cut}
use Rattle.rounds.proofs.carry.Playing.carry_back.Goals as goal

pub end-requires : goal.end-requires
end-requires c = c.args.self.now.playable.bounded

pub loop-t-init : goal.loop-t-init
loop-t-init c =
    let a = c.args in
    record { place = omega arith; carried = c.requires.carried ∙ carry-cut a.self.now.file.now a.self.now.stream a.to _ (omega arith) (omega arith) }

pub held_in-left-requires : goal.held_in-left-requires
held_in-left-requires c =
    let a = c.args in
    let l = c.loop-t in
    (carry-round a.self.now.file.now a.self.now.stream l.left l.t _ (omega arith) l.invariant.carried)

pub loop-t-preserved : goal.loop-t-preserved
loop-t-preserved c = record { place = omega arith; carried = c.held_in-left.ensures.carried }

pub returns : goal.returns
returns c =
    let a = c.args in
    let l = c.loop-t in
    l.invariant.carried ∙ sym (carry-cut a.self.now.file.now a.self.now.stream a.from l.t l.invariant.place (omega arith))
