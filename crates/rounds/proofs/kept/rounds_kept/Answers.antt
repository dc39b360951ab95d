use Rattle.std.proofs.Common.{◌+◌, ◌-◌, ◌≡◌, refl, sym, ap, ◌∙◌, Bool, true, false, ◌&&◌, arith}
use Rattle.laws.specs.Tests.{all}
use Rattle.loss.specs.Loss.{loss_at}
use Rattle.rounds.specs.Rows.{active}
use Rattle.rounds.specs.RowLaws.{bookings-marked}
use Rattle.rounds.specs.Table.{streams_in}
use Rattle.rounds.specs.TableLaws.{streams-marked}
use Rattle.rounds.specs.Kept.{kept_in, feasible, in_rounds}
use Rattle.rounds.specs.KeptLaws.{rounds-below, kept-block, table-losses}
use Rattle.rounds.proofs.kept.rounds_kept.Goals as goal

-- where the second test says no, both do
and_none : (a b : Bool) → false ≡ b → false ≡ a && b
and_none true b e = e
and_none false b e = refl

pub returns-then-not-all_feasible : goal.returns-then-not-all_feasible
returns-then-not-all_feasible c =
    let f = c.args.file.now in
    let xs = c.args.xs.now in
    let ms = c.deref.result.now in
    let marked = c.deref.ensures.0 ∙ c.mark_streams-bookings.ensures in
    let asked = c.all_feasible.ensures f (bookings-marked f xs ms marked c.requires.few c.requires.playable) in
    let none : all (feasible f) xs ≡ false = ap (all (feasible f)) (sym (streams-marked f xs ms marked)) ∙ sym asked ∙ c.if-not-all_feasible.true in
    rw none

pub look-b-requires : goal.look-b-requires
look-b-requires c =
    let a = c.args in
    let marked = c.deref-in-loop-t.ensures.0 ∙ c.mark_streams-bookings.ensures in
    (bookings-marked a.file.now a.xs.now c.deref-in-loop-t.result.now marked c.requires.few c.requires.playable, omega arith, c.requires.day, omega arith)

pub block_kept-requires : goal.block_kept-requires
block_kept-requires c = ((_, _, c.look-b.ensures.block), table-losses c.table-losses.result c.table-losses.ensures)

pub returns-then-not-block_kept : goal.returns-then-not-block_kept
returns-then-not-block_kept c =
    let f = c.args.file.now in
    let day = c.args.day in
    let xs = c.args.xs.now in
    let l = c.loop-t in
    let ms = c.deref-in-loop-t.result.now in
    let same = streams-marked f xs ms (c.deref-in-loop-t.ensures.0 ∙ c.mark_streams-bookings.ensures) in
    let found = c.look-b.ensures in
    let n = c.look-b.result.rounds in
    let p = kept_in f loss_at day.disk day.memory xs in
    let told = rw (found.first, same) at (c.block_kept.ensures f (active l.t (l.t + n) (streams_in ms)) found.block) in
    let block = kept-block f c.table-losses.result day.disk day.memory xs l.t n day.rounds c.block_kept.result
    (table-losses c.table-losses.result c.table-losses.ensures) c.requires.few found.within l.invariant.kept told in
    let no = block ∙ ap (λ (r : Bool). r && in_rounds (l.t + n) (day.rounds - (l.t + n)) p) c.if-not-block_kept.true in
    and_none (all (feasible f) xs) _ (sym (sym (rounds-below p day.rounds) ∙ no))

pub loop-t-preserved : goal.loop-t-preserved
loop-t-preserved c =
    let f = c.args.file.now in
    let day = c.args.day in
    let xs = c.args.xs.now in
    let l = c.loop-t in
    let ms = c.deref-in-loop-t.result.now in
    let same = streams-marked f xs ms (c.deref-in-loop-t.ensures.0 ∙ c.mark_streams-bookings.ensures) in
    let found = c.look-b.ensures in
    let n = c.look-b.result.rounds in
    let p = kept_in f loss_at day.disk day.memory xs in
    let told = rw (found.first, same) at (c.block_kept.ensures f (active l.t (l.t + n) (streams_in ms)) found.block) in
    let block = kept-block f c.table-losses.result day.disk day.memory xs l.t n day.rounds c.block_kept.result
    (table-losses c.table-losses.result c.table-losses.ensures) c.requires.few found.within l.invariant.kept told in
    record {
      within = found.within;
      size = c.look-b.auto.words ∙ l.invariant.size;
      kept = block ∙ ap (λ (r : Bool). r && in_rounds (l.t + n) (day.rounds - (l.t + n)) p) c.if-not-block_kept.false;
    }

pub returns : goal.returns
returns c =
    let f = c.args.file.now in
    let day = c.args.day in
    let xs = c.args.xs.now in
    let ms = c.deref.result.now in
    let marked = c.deref.ensures.0 ∙ c.mark_streams-bookings.ensures in
    let asked = c.all_feasible.ensures f (bookings-marked f xs ms marked c.requires.few c.requires.playable) in
    let each : all (feasible f) xs ≡ true = ap (all (feasible f)) (sym (streams-marked f xs ms marked)) ∙ sym asked ∙ c.if-not-all_feasible.false in
    let e : day.rounds - c.loop-t.t ≡ 0 = omega arith in
    let passed = rw e at c.loop-t.invariant.kept in
    rw each (sym (sym (rounds-below (kept_in f loss_at day.disk day.memory xs) day.rounds) ∙ passed))
