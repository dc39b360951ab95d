-- `rounds::block::write_row` meets its contract. Assumes nothing.
use Prim.Native.Nat.{◌+◌}
use native.Mathlib.Omega.{arith}
use Rattle.rounds.specs.CarryLaws.{carry-round}
use Rattle.rounds.specs.RowLaws.{row-part, row_back}
use Rattle.rounds.proofs.block.write_row.Goals as goal

pub write_helds-requires : goal.write_helds-requires
write_helds-requires c =
    let a = c.args in
    let head = c.write_head in
    let e = row-part a.x.now.stream a.n a.part.now head.new.part head.ensures c.requires.2 in
    (omega (arith, e), carry-round a.x.now.file.now a.x.now.stream a.carry (a.from + a.n) _ (omega (arith, e)) c.requires.1)

pub returns : goal.returns
returns c =
    let a = c.args in
    let head = c.write_head in
    row_back a.x.now.stream a.n a.part.now head.new.part head.ensures c.requires.2 a.x.now.file.now a.from _ c.write_helds.ensures
