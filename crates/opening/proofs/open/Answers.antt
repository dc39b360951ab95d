-- `opening::open` meets its contract: the number is the model's, a refusal leaves everything, and each list is zeroed in its
-- first T places, which 11 says are there. Assumes nothing.
use Rattle.std.proofs.Common.{refl, sym, arith}
use Rattle.limits.proofs.Numbers.{number-not_zero}
use Rattle.loss.specs.Loss.{loss_at}
use Rattle.model.specs.Code.{setting_of, state_of}
use Rattle.opening.specs.Contract.{asked}
use Rattle.questions.specs.Standing.{day-held}
use Rattle.opening.specs.Laws.{refused-opens, accepted-opens}
use Rattle.opening.proofs.open.Goals as goal

pub clear-requires : goal.clear-requires
clear-requires c = omega (arith, (day-held _ _ _ _ (sym c.in-Ok.ensures)).opens)

pub clear-requires-in-Ok : goal.clear-requires-in-Ok
clear-requires-in-Ok c = omega (arith, (day-held _ _ _ _ (sym c.in-Ok.ensures)).reserves)

pub clear-requires-in-Ok-2 : goal.clear-requires-in-Ok-2
clear-requires-in-Ok-2 c = omega (arith, (day-held _ _ _ _ (sym c.in-Ok.ensures)).helds)

pub returns-in-Err-clause-opened : goal.returns-in-Err-clause-opened
returns-in-Err-clause-opened c verdict films rows places =
    let a = c.args in
    let S = setting_of verdict films loss_at (asked a.rounds a.disk a.memory) in
    rw c.number.ensures (refused-opens S (state_of a.day.now rows places a.sheet.now.opens.now a.sheet.now.reserves.now a.sheet.now.helds.now) a.day.now _ c.in-Err.ensures (number-not_zero c.in-Err.refusal) a.sheet.now refl refl refl)

pub returns-in-Ok-clause-opened : goal.returns-in-Ok-clause-opened
returns-in-Ok-clause-opened c verdict films rows places =
    let a = c.args in
    let S = setting_of verdict films loss_at (asked a.rounds a.disk a.memory) in
    accepted-opens S (state_of a.day.now rows places a.sheet.now.opens.now a.sheet.now.reserves.now a.sheet.now.helds.now) a.day.now c.in-Ok.ensures _ c.clear.ensures c.clear-in-Ok.ensures c.clear-in-Ok-2.ensures
