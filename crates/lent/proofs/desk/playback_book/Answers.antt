use Rattle.std.proofs.Common.{arith, rules}
use Rattle.interface.proofs.DeskLaws.{book-over}
use Rattle.lent.proofs.desk.playback_book.Goals as goal

pub returns : goal.returns
returns c =
    let x = c.args in
    let made = c.desk_of-desk in
    let done = c.book-answer in
    book-over x.file.now x.day x.records.now made.result made.ensures (record { opens = x.opens; reserves = x.reserves; helds = x.helds }) done.result done.new.desk done.new.sheet
    _ _ _ _ _ c.new.ensures c.store.ensures (omega arith) (search rules) (search rules) (search rules) x.request done.ensures.leaves
