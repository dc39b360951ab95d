-- The mark at or after round t, and the rounds between.
use Rattle.std.proofs.Common.{get_or, ap, sym, ◌∙◌, arith}
use Rattle.rounds.specs.CarryLaws.{carry-late}
use Rattle.rounds.specs.TableLaws.{mark-at}
use Rattle.rounds.specs.declared.marks.Marked.{Marked}
use Rattle.rounds.proofs.marks.Marked.carry_at.Goals as goal

pub returns-then-end-t : goal.returns-then-end-t
returns-then-end-t c =
    let x = c.args.x.now in
    sym (carry-late x.file.now x.stream c.args.t (omega arith))

pub carry_back-requires : goal.carry_back-requires
carry_back-requires c =
    let x = c.args.x.now in
    let p = x.playable in
    let j = c.div_ceil-j.result in
    record {
      order = omega arith;
      carried = ap (λ (m : Marked). get_or m.carries j 0) c.requires.marked ∙ mark-at x.file.now x.stream j (omega (arith, p.bounded.prefetch, p.stored.few));
    }
