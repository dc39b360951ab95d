use Rattle.std.proofs.Common.{◌+◌, ◌≡◌, ◌≤◌, ◌∙◌, arith}
use Rattle.rounds.specs.Rows.{active}
use Rattle.rounds.specs.RowLaws.{bookings-marked}
use Rattle.rounds.specs.Table.{streams_in}
use Rattle.rounds.specs.TableLaws.{streams-marked}
use Rattle.rounds.specs.Sums.{none, sums_in}
use Rattle.rounds.specs.SumLaws.{sums-active}
use Rattle.rounds.specs.SheetLaws.{summed-then, summed-sheet, summed-places}
use Rattle.rounds.proofs.sheet.sum_sheet.Goals as goal

pub look-b-requires : goal.look-b-requires
look-b-requires c =
    let a = c.args in
    let marked = c.deref.ensures.0 ∙ c.mark_streams-bookings.ensures in
    (bookings-marked a.file.now a.xs.now c.deref.result.now marked c.requires.few c.requires.playable, omega arith, c.requires.day, omega arith)

pub sum_block-requires : goal.sum_block-requires
sum_block-requires c =
    let a = c.args in
    let l = c.loop-t in
    let s = a.sheet.now in
    let p = summed-places (λ k. sums_in a.file.now k a.xs.now) a.from s.opens.now s.reserves.now s.helds.now l.t a.to _ _ _
    l.invariant.from l.invariant.to c.requires.places l.invariant.summed in
    let found = c.look-b.ensures in
    let end : c.look-b.result.from + c.look-b.result.rounds ≤ a.to = omega (arith, found.first, found.within) in (
      (_, _, found.block),
      record { opens-places = omega (arith, p.opens-places); reserves-places = omega (arith, p.reserves-places); helds-places = omega (arith, p.helds-places) },
    )

pub loop-t-preserved : goal.loop-t-preserved
loop-t-preserved c =
    let a = c.args in
    let l = c.loop-t in
    let f = a.file.now in
    let xs = a.xs.now in
    let ms = c.deref.result.now in
    let s = a.sheet.now in
    let same : streams_in ms ≡ xs = streams-marked f xs ms (c.deref.ensures.0 ∙ c.mark_streams-bookings.ensures) in
    let found = c.look-b.ensures in
    let end = l.t + c.look-b.result.rounds in
    let here = active l.t end xs in
    let block = rw (found.first, same) at (c.sum_block.ensures.summed f (active l.t end (streams_in ms)) found.block) in
    record {
      from = omega (arith, l.invariant.from);
      to = found.within;
      size = c.look-b.auto.words ∙ l.invariant.size;
      lists =
          record {
            opens = c.sum_block.ensures.lists.opens ∙ l.invariant.lists.opens;
            reserves = c.sum_block.ensures.lists.reserves ∙ l.invariant.lists.reserves;
            helds = c.sum_block.ensures.lists.helds ∙ l.invariant.lists.helds;
          };
      summed =
          summed-then (λ k. sums_in f k xs) a.from s.opens.now s.reserves.now s.helds.now l.t l.sheet.opens.now l.sheet.reserves.now l.sheet.helds.now
          l.invariant.summed l.invariant.from a.to end (λ k. sums_in f k here) _ _ _ c.requires.places (omega arith) found.within
          (λ k u v. sums-active f k l.t end u v none xs) block;
    }

pub returns-clause-summed : goal.returns-clause-summed
returns-clause-summed c =
    let a = c.args in
    let l = c.loop-t in
    let s = a.sheet.now in
    let e : l.t ≡ a.to = omega (arith, l.invariant.to) in
    summed-sheet a.file.now a.xs.now a.from a.to s.opens.now s.reserves.now s.helds.now _ _ _ c.requires.order (rw e at l.invariant.summed)
