use Rattle.std.proofs.Common.{arith, rules}
use Rattle.replay.specs.Contract.{desk_in}
use Rattle.interface.proofs.ReplayLaws.{day-told, replay-over}
use Rattle.lent.proofs.desk.playback_replay.Goals as goal

pub returns : goal.returns
returns c =
    let x = c.args in
    let made = c.desk_of-desk in
    let done = c.replay-answer in
    replay-over x.file.now x.rounds x.disk x.memory x.records.now x.journal.now x.log.now (record { opens = x.opens; reserves = x.reserves; helds = x.helds }) _ made.result made.ensures
    done.result (desk_in done.result done.new.desk) done.new.sheet _ _ _ _ _ _ done.ensures.replays
    (rw (day-told _ c.default.ensures _ _ _ _ made.ensures done.ensures.refused) at c.new.ensures) c.store.ensures (omega arith) (search rules) (search rules) (search rules)
