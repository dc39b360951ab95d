-- `step::step_play` meets its contract: the lines say whether the words fit.
use Rattle.std.proofs.Common.{length, ap, refl, arith}
use Rattle.playing.specs.Contract.{told_lines}
use Rattle.replay.proofs.StepLaws.{play-full, play-done}
use Rattle.replay.proofs.step.step_play.Goals as goal

pub returns-then-room-lines-clause-steps : goal.returns-then-room-lines-clause-steps
returns-then-room-lines-clause-steps c sheet =
    let x = c.args in
    let p = c.play_standing-played in
    let lines = ap length c.lines-lines.ensures.told in
    play-full x.films.now.bytes.now x.desk.now x.room p.result.answer (told_lines p.result.answer p.result.lines) p.new.desk p.ensures.plays sheet x.log.now x.log.now _ (omega arith) refl refl refl refl refl

pub returns-clause-steps : goal.returns-clause-steps
returns-clause-steps c sheet =
    let x = c.args in
    let p = c.play_standing-played in
    let lines = ap length c.lines-lines.ensures.told in
    play-done x.films.now.bytes.now x.desk.now x.room p.result.answer (told_lines p.result.answer p.result.lines) p.new.desk p.ensures.plays sheet x.log.now c.append_lines.new.self (omega arith) c.append_answer.new.self
    c.append_answer.ensures.wrote (rw (← c.lines-lines.ensures.told) c.append_lines.ensures.wrote)
