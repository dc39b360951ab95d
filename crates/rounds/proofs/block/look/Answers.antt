use Rattle.std.proofs.Common.{refl, sym, ◌∙◌, length, arith}
use Rattle.std.proofs.lemmas.List.Sums.{length-filter}
use Rattle.rounds.specs.Table.{streams_in}
use Rattle.rounds.specs.Rows.{open_between}
use Rattle.rounds.specs.TableLaws.{streams-long}
use Rattle.rounds.specs.RowLaws.{active-bound, rows_fit, block_of}
use Rattle.rounds.proofs.block.look.Goals as goal

pub block_rounds-requires : goal.block_rounds-requires
block_rounds-requires c =
    let a = c.args in
    let last = c.min-last.result in
    omega (arith, c.count_open-most.ensures, length-filter (open_between a.from last) (streams_in a.bookings.now), active-bound a.from last (streams_in a.bookings.now) (omega (arith, streams-long a.bookings.now, c.requires.0.few)))

pub write_rows-bookings-requires : goal.write_rows-bookings-requires
write_rows-bookings-requires c =
    let a = c.args in
    let xs = streams_in a.bookings.now in
    let rounds = c.min-rounds.result in
    let last = c.min-last.result in
    let room = rw (c.count_open-most.ensures ∙ sym (length-filter (open_between a.from last) xs)) at c.block_rounds.ensures.1 in (
      c.requires.0,
      omega arith,
      rows_fit a.from rounds last c.block_rounds.result (length a.words.now) xs (omega arith) (omega arith) (omega (arith, room, c.requires.3)),
    )

pub returns : goal.returns
returns c =
    let a = c.args in
    let rounds = c.min-rounds.result in
    record {
      first = refl;
      some = omega (arith, c.block_rounds.ensures.0);
      within = omega arith;
      block = block_of a.file.now a.bookings.now a.from rounds _ _ c.requires.0 (omega arith) c.write_rows-bookings.ensures;
    }
