-- The invariant: the marks from j on are written, and `carry` is mark j.
use Rattle.std.proofs.Common.{◌≡◌, ◌+◌, ◌-◌, length, drop}
use Rattle.model.specs.Calls.{per_round}
use Rattle.rounds.specs.Table.{mark_count, mark_of}
use Rattle.rounds.proofs.marks.Marked.new.Given as goal

abbrev pub invariant-loop-j : goal.invariant-loop-j
invariant-loop-j l =
    record {
      size : length l.carries ≡ mark_count;
      mark : l.carry ≡ mark_of l.x.file.now l.x.stream l.j;
      written : drop l.j l.carries ≡ per_round (mark_of l.x.file.now l.x.stream) (0 + l.j) (mark_count - l.j);
    }
