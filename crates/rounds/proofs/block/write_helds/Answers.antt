use Rattle.std.proofs.Common.{refl, ◌∙◌, ◌+◌, ◌-◌, length, length-set, arith}
use Rattle.load.specs.Stream.{holds_in}
use Rattle.rounds.specs.CarryLaws.{carry-round}
use Rattle.rounds.specs.TableLaws.{fill_none, fill-next, fill-all}
use Rattle.rounds.proofs.block.write_helds.Goals as goal

pub loop-k-init : goal.loop-k-init
loop-k-init c =
    let a = c.args in
    record { size = refl; carried = c.requires.1; written = fill_none (λ t. holds_in a.x.now.file.now t a.x.now.stream) a.from (length a.part.now) a.part.now refl }

pub held_in-turn-requires : goal.held_in-turn-requires
held_in-turn-requires c =
    let a = c.args in
    let l = c.loop-k in
    (carry-round a.x.now.file.now a.x.now.stream l.left (a.from + l.k) _ (omega arith) l.invariant.carried)

pub loop-k-preserved : goal.loop-k-preserved
loop-k-preserved c =
    let a = c.args in
    let l = c.loop-k in
    let r = c.held_in-turn in
    record {
      size = length-set l.part (l.k - 1) r.result.held ∙ l.invariant.size;
      carried = r.ensures.carried;
      written =
          fill-next (λ t. holds_in a.x.now.file.now t a.x.now.stream) a.from (length a.part.now) l.part l.invariant.size l.k r.result.held (omega arith)
          (omega arith) l.invariant.written r.ensures.held;
    }

pub returns : goal.returns
returns c =
    let a = c.args in
    let l = c.loop-k in
    fill-all (λ t. holds_in a.x.now.file.now t a.x.now.stream) a.from (length a.part.now) l.part l.invariant.size l.k (omega arith) l.invariant.written
