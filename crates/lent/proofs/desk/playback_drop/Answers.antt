use Rattle.std.proofs.Common.{arith, rules}
use Rattle.interface.proofs.DeskLaws.{drop-over}
use Rattle.lent.proofs.desk.playback_drop.Goals as goal

pub returns : goal.returns
returns c =
    let x = c.args in
    let made = c.desk_of-desk in
    let done = c.drop_booking-answer in
    drop-over x.file.now x.day x.records.now made.result made.ensures (record { opens = x.opens; reserves = x.reserves; helds = x.helds }) done.result done.new.desk done.new.sheet
    _ _ _ _ _ c.new.ensures c.store.ensures (omega arith) (search rules) (search rules) (search rules) x.name done.ensures.drops
