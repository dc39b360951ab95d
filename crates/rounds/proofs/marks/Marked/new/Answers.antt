use Rattle.std.proofs.Common.{◌≡◌, ◌+◌, ◌-◌, ◌*◌, sym, ap, ◌∙◌, replicate, length-set, arith, ℕ, List}
use Rattle.rounds.specs.Table.{mark_rounds, mark_count, mark_of, marks_of}
use Rattle.rounds.specs.CarryLaws.{carry-late, carry-round}
use Rattle.rounds.specs.TableLaws.{fill_none, fill-next, fill-all}
use Rattle.rounds.proofs.marks.Marked.new.Goals as goal

pub loop-j-init : goal.loop-j-init
loop-j-init c =
    let a = c.args in
    record {
      size = omega arith;
      mark = sym (carry-late a.x.now.file.now a.x.now.stream _ (omega (arith, c.args.x.now.playable.bounded.prefetch, c.args.x.now.playable.stored.few)));
      written = fill_none (mark_of a.x.now.file.now a.x.now.stream) 0 mark_count (replicate 18 0) (omega arith);
    }

pub overflow_mul-from : goal.overflow_mul-from
overflow_mul-from c = omega arith

pub overflow_add-from : goal.overflow_add-from
overflow_add-from c = omega (arith, c.args.x.now.playable.bounded.ends)

pub carry_back-carry-requires : goal.carry_back-carry-requires
carry_back-carry-requires c =
    let a = c.args in
    let l = c.loop-j in
    record {
      order = omega arith;
      carried = carry-round a.x.now.file.now a.x.now.stream l.carry (a.x.now.stream.start + mark_rounds * l.j) _ (omega arith) l.invariant.mark;
    }

pub loop-j-preserved : goal.loop-j-preserved
loop-j-preserved c =
    let a = c.args in
    let l = c.loop-j in
    let r = c.carry_back-carry in
    let here : l.j - 1 ≡ 0 + (l.j - 1) = omega arith in
    record {
      size = length-set l.carries (l.j - 1) r.result ∙ l.invariant.size;
      mark = r.ensures;
      written =
          fill-next (mark_of a.x.now.file.now a.x.now.stream) 0 mark_count l.carries l.invariant.size l.j r.result (omega arith) (omega arith) l.invariant.written
          (r.ensures ∙ ap (mark_of a.x.now.file.now a.x.now.stream) here);
    }

pub returns : goal.returns
unfolding marks_of
returns c =
    let a = c.args in
    let l = c.loop-j in
    ap (λ (m : List ℕ). record { stream = a.x.now.stream; carries = m })
    (fill-all (mark_of a.x.now.file.now a.x.now.stream) 0 mark_count l.carries l.invariant.size l.j (omega arith) l.invariant.written)
