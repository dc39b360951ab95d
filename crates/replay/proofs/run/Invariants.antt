-- The whole run is that of the entries done, whose words stand in the log, and of the entries that follow, and the day is the plain
-- day's picture.
use Rattle.std.proofs.Common.{◌≡◌}
use Rattle.model.specs.Code.{SameLists}
use Rattle.replay.proofs.LoopLaws.{Going}
use Rattle.replay.proofs.run.Given as goal

abbrev pub invariant-loop-i : goal.invariant-loop-i
invariant-loop-i l = record {
  going : Going l.file.bytes.now l.initial.desk l.initial.sheet l.journal l.initial.log.words.now l.count l.log l.desk l.sheet l.i;
  places : l.desk.places ≡ l.initial.desk.places;
  same_sheet : SameLists l.initial.sheet l.sheet;
  same_log : l.log.words.ghost_name ≡ l.initial.log.words.ghost_name;
}
