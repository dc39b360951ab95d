-- `program::begin` meets its contract: the file's number decides, and a refusal is written where there is room. Assumes nothing.
use Rattle.std.proofs.Common.{arith, sym, ◌∙◌}
use Rattle.limits.proofs.Numbers.{number-positive}
use Rattle.program.proofs.Laws.{begin-accepted, begin-short, begin-refused}
use Rattle.program.proofs.begin.Goals as goal

pub returns-in_default : goal.returns-in_default
returns-in_default c = begin-accepted c.args.file.now c.args.out.now (sym c.in_default.ensures)

pub returns-then-out-lt-OUTPUT_BYTES : goal.returns-then-out-lt-OUTPUT_BYTES
returns-then-out-lt-OUTPUT_BYTES c =
    begin-short c.args.file.now c.args.out.now (omega (arith, number-positive c.in-Err.refusal, c.in-Err.ensures)) c.if-out-lt-OUTPUT_BYTES.true

pub returns : goal.returns
returns c =
    let wrote = c.write_first in
    begin-refused c.args.file.now c.args.out.now c.number.result (c.number.ensures ∙ c.in-Err.ensures)
    (omega (arith, number-positive c.in-Err.refusal, c.number.ensures))
    c.if-out-lt-OUTPUT_BYTES.false
    wrote.new.out
    wrote.result
    wrote.ensures.buffer
    wrote.ensures.count
