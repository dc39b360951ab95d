-- The invariant: the rows of those of the bookings so far that are open in these rounds are written.
use Rattle.std.proofs.Common.{◌≡◌, ◌+◌, length, take}
use Rattle.rounds.specs.Table.{streams_in}
use Rattle.rounds.specs.Rows.{active, RowsOf}
use Rattle.rounds.proofs.block.write_rows.Given as goal

abbrev pub invariant-loop-m : goal.invariant-loop-m
invariant-loop-m l =
    (length l.words ≡ length l.initial.words)
    × RowsOf l.file (active l.from (l.from + l.n) (take l.m-index (streams_in l.bookings))) l.from l.n l.rows l.words
