use Rattle.std.proofs.Common.{◌+◌, ◌≡◌, ◌∙◌, length-set, arith}
use Rattle.rounds.specs.Sums.{sums_in}
use Rattle.rounds.specs.SheetLaws.{summed-next}
use Rattle.rounds.proofs.sheet.sum_block.Goals as goal

pub loop-k-preserved : goal.loop-k-preserved
loop-k-preserved c =
    let a = c.args in
    let l = c.loop-k in
    let s = c.round_sums-sums in
    let o = l.sheet.opens.now in
    let r = l.sheet.reserves.now in
    let h = l.sheet.helds.now in
    let t = a.b.from + l.k in
    let e : a.b.from + (l.k + 1) ≡ t + 1 = omega arith in
    record {
      lists = record { opens = l.invariant.lists.opens; reserves = l.invariant.lists.reserves; helds = l.invariant.lists.helds };
      opens = length-set o t s.result.films ∙ l.invariant.opens;
      reserves = length-set r t s.result.reserves ∙ l.invariant.reserves;
      helds = length-set h t s.result.held ∙ l.invariant.helds;
      summed =
          λ f ys v.
          rw e
          (summed-next (λ t. sums_in f t ys) a.b.from a.sheet.now.opens.now a.sheet.now.reserves.now a.sheet.now.helds.now t o r h
          (l.invariant.summed f ys v) (omega arith) (a.b.from + a.b.rounds) s.result c.requires.1 (omega arith) (s.ensures.0 f ys v));
    }
