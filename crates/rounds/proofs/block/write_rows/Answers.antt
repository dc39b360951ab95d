use Rattle.std.proofs.Common.{◌≤◌, ◌<◌, ◌+◌, ◌*◌, refl, sym, ◌∙◌, length, get_or, take, arith, rules}
use Rattle.rounds.specs.Table.{streams_in, no_marked}
use Rattle.rounds.specs.Rows.{head_words, active}
use Rattle.rounds.specs.RowLaws.{rows_none, rows_next, rows-room, active-open, active-shut, between_start}
use Rattle.rounds.specs.TableLaws.{part-long, streams-at, streams-long, marked-at}
use Rattle.rounds.proofs.block.write_rows.Goals as goal
use Rattle.rounds.proofs.block.write_rows.Goals.{then-open_between, else-open_between}

pub loop-m-init : goal.loop-m-init
loop-m-init c =
    let a = c.args in
    (refl, rows_none a.file.now a.from a.n a.words.now)

pub invariant_of-x : goal.invariant_of-x
invariant_of-x c =
    let ms = c.args.bookings.now in
    let i = c.loop-m.m-index in
    record { playable = rw (streams-at ms i (omega arith)) at (c.requires.0.playable i (omega (arith, streams-long ms))) }

pub carry_at-carry-requires : goal.carry_at-carry-requires
carry_at-carry-requires c =
    let a = c.args in
    let ms = a.bookings.now in
    let i = c.loop-m.m-index in
    let o = sym c.open_between.ensures ∙ c.if-open_between.true in
    record {
      marked = marked-at a.file.now ms i c.requires.0.marked (omega arith);
      begun = omega (arith, between_start a.from (a.from + a.n) (get_or ms i no_marked).stream o);
    }

pub slice_bounds-write_row-end : goal.slice_bounds-write_row-end
slice_bounds-write_row-end c =
    let a = c.args in
    let l = c.loop-m in
    let ms = a.bookings.now in
    let place = streams-at ms l.m-index (omega arith) in
    let o = sym c.open_between.ensures ∙ c.if-open_between.true in
    let room : (head_words + a.n) * l.rows + (head_words + a.n) ≤ length l.words =
    rows-room a.from (a.from + a.n) (streams_in ms) l.m-index (head_words + a.n) l.rows (length l.words) (omega (arith, streams-long ms))
    l.invariant.1.bookings (omega (arith, c.requires.2)) (rw place o) in
    search rules

pub write_row-requires : goal.write_row-requires
write_row-requires c =
    let a = c.args in
    let l = c.loop-m in
    let ms = a.bookings.now in
    let place = streams-at ms l.m-index (omega arith) in
    let o = sym c.open_between.ensures ∙ c.if-open_between.true in
    let room =
    rows-room a.from (a.from + a.n) (streams_in ms) l.m-index (head_words + a.n) l.rows (length l.words) (omega (arith, streams-long ms))
    l.invariant.1.bookings (omega (arith, c.requires.2)) (rw place o) in (
      c.requires.1,
      c.carry_at-carry.ensures,
      part-long ((head_words + a.n) * l.rows) (head_words + a.n) l.words room,
    )

pub loop-m-preserved : goal.loop-m-preserved
loop-m-preserved c =
    let a = c.args in
    let l = c.loop-m in
    let ms = a.bookings.now in
    let xs = streams_in ms in
    let i = l.m-index in
    let here : i < length xs = omega (arith, streams-long ms) in
    let place = streams-at ms i (omega arith) in
    elim c.if-open_between.branch [
      | then-open_between w ↦
          let o = sym c.open_between.ensures ∙ w.if-open_between.true in
          let room = rows-room a.from (a.from + a.n) xs i (head_words + a.n) l.rows (length l.words) here
          l.invariant.1.bookings (omega (arith, c.requires.2)) (rw place o) in
          let more = active-open a.from (a.from + a.n) xs i here (rw place o) in
          let next = rows_next a.file.now (active a.from (a.from + a.n) (take i xs)) a.from a.n l.rows l.words (get_or ms i no_marked).stream _
          l.invariant.1 room w.write_row.ensures in
          (c.if-open_between.auto.words ∙ l.invariant.0, rw (w.rows-is, w.words-is, more, place) next)
      | else-open_between w ↦
          let shut = sym c.open_between.ensures ∙ w.if-open_between.false in
          let less = active-shut a.from (a.from + a.n) xs i here (rw place shut) in
          (rw w.words-is l.invariant.0, rw (w.rows-is, w.words-is, less) l.invariant.1)
    ]
