-- `console::step` meets its contract: the command carried out, and its text at the front of the buffer. Assumes nothing.
use Rattle.console.specs.Contract.{with_sheet}
use Rattle.console.proofs.Stepping.{step-none, step-few, step-done}
use Rattle.console.proofs.step.Goals as goal

pub returns-then-out-lt-OUTPUT_BYTES-clause-after : goal.returns-then-out-lt-OUTPUT_BYTES-clause-after
returns-then-out-lt-OUTPUT_BYTES-clause-after c =
    let a = c.args in
    step-none a.file.now (with_sheet a.desk.now a.sheet.now) a.command a.out.now c.if-out-lt-OUTPUT_BYTES.true

pub write_reply-requires-clause-lines : goal.write_reply-requires-clause-lines
write_reply-requires-clause-lines c =
    let a = c.args in
    let reply = c.carry_out-reply in
    rw c.lines.ensures.told (step-few a.file.now (with_sheet a.desk.now a.sheet.now) a.command reply.result reply.new.desk reply.new.sheet reply.ensures.carried)

pub returns-clause-after : goal.returns-clause-after
returns-clause-after c =
    let a = c.args in
    let reply = c.carry_out-reply in
    let lines = c.lines.ensures.told in
    step-done a.file.now (with_sheet a.desk.now a.sheet.now) a.command reply.result reply.new.desk reply.new.sheet reply.ensures.carried
    a.out.now c.if-out-lt-OUTPUT_BYTES.false c.name_of.result c.name_of.ensures c.write_reply.new.out c.write_reply.result
    (rw lines at c.write_reply.ensures.buffer)
    (rw lines at c.write_reply.ensures.count)
