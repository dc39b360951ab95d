use Rattle.playing.specs.Contract.{told_lines}
use Rattle.interface.proofs.DeskLaws.{play-over}
use Rattle.lent.proofs.desk.playback_play.Goals as goal

pub returns : goal.returns
returns c =
    let x = c.args in
    let made = c.desk_of-desk in
    let p = c.play-played in
    let lines = told_lines p.result.answer p.result.lines in
    play-over x.file.now x.day x.records.now made.result made.ensures x.report.now p.result.answer lines p.new.desk _ _ p.ensures.plays
    (rw c.lines.ensures.told at c.lines.ensures.few) c.new.ensures (rw c.lines.ensures.told at c.store.ensures)
