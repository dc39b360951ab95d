use Rattle.std.proofs.Common.{◌+◌, refl, sym, ◌∙◌, arith}
use Rattle.rounds.specs.Rows.{head_words}
use Rattle.rounds.specs.TableLaws.{row_within}
use Rattle.rounds.specs.SumLaws.{within-room, within-next, block-reserve, block-small, block-turn, block-end}
use Rattle.rounds.proofs.sums.round_sums.Goals as goal

pub overflow_mul-at : goal.overflow_mul-at
overflow_mul-at c =
    let b = c.args.b in
    let w = c.requires.0.2 in
    omega (arith, row_within (head_words + b.rounds) c.loop-i.i b.bookings (omega arith), w.table.room, c.requires.1)

pub at-requires : goal.at-requires
at-requires c =
    let b = c.args.b in
    let w = c.requires.0.2 in
    omega (arith, row_within (head_words + b.rounds) c.loop-i.i b.bookings (omega arith), w.table.room, c.requires.1)

pub with_one-sums-requires : goal.with_one-sums-requires
with_one-sums-requires c =
    let a = c.args in
    let w = c.requires.0.2 in
    let l = c.loop-i in
    rw c.at.ensures
    (within-room (a.b.from + a.k) l.sums l.i _ _ l.invariant.small
    (block-reserve c.requires.0.0 c.requires.0.1 a.b a.words.now w l.i (omega arith))
    (block-small c.requires.0.0 c.requires.0.1 a.b a.words.now w l.i (omega arith) a.k c.requires.1) (omega (arith, w.few)))

pub loop-i-preserved : goal.loop-i-preserved
loop-i-preserved c =
    let a = c.args in
    let w = c.requires.0.2 in
    let l = c.loop-i in
    let e = c.with_one-sums.ensures in
    let head = c.at.ensures in
    record {
      small =
          rw (e, head)
          (within-next (a.b.from + a.k) l.sums l.i _ _ l.invariant.small
          (block-reserve c.requires.0.0 c.requires.0.1 a.b a.words.now w l.i (omega arith))
          (block-small c.requires.0.0 c.requires.0.1 a.b a.words.now w l.i (omega arith) a.k c.requires.1));
      summed =
          λ f ys v.
          l.invariant.summed f ys v ∙ block-turn f ys a.b a.words.now v l.i (omega arith) a.k c.requires.1 l.sums ∙ rw (e, head) refl;
    }

pub returns : goal.returns
returns c =
    let l = c.loop-i in
    let a = c.args in
    let w = c.requires.0.2 in (
      λ f ys v. sym (l.invariant.summed f ys v ∙ block-end f (a.b.from + a.k) l.sums ys l.i (omega (arith, v.table.bookings))),
      omega (arith, l.invariant.small.films, w.few),
    )
