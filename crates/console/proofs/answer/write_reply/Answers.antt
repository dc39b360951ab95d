-- `console::answer::write_reply` meets its contract: each line is written after those before it, with room. Assumes nothing.
use Rattle.std.proofs.Common.{rules, arith, ◌∙◌, take_all}
use Rattle.console.proofs.Writing.{place-room, reply-room, reply-next}
use Rattle.console.proofs.answer.write_reply.Goals as goal

pub unwrap-at-requires : goal.unwrap-at-requires
unwrap-at-requires c =
    let a = c.args in
    let loop = c.loop-line in
    let room = reply-room a.out.now a.name a.round a.answer a.lines.now loop.line-index c.requires.lines c.requires.room loop.at loop.out loop.invariant.1 loop.invariant.2 in
    let some = c.write_line.ensures.value ∙ place-room loop.out loop.at _ room in
    search rules

pub loop-line-preserved : goal.loop-line-preserved
loop-line-preserved c =
    let a = c.args in
    let loop = c.loop-line in
    let next = reply-next a.out.now a.name a.round a.answer a.lines.now loop.line-index c.requires.lines c.requires.room c.loop-line-test.true
    loop.out loop.at loop.invariant.0 loop.invariant.1 loop.invariant.2 _ _ _
    c.write_line.ensures.out_after c.write_line.ensures.value c.unwrap-at.ensures in
    (next.0, next.1, omega (arith, c.write_line.auto.out, loop.invariant.2))

pub returns : goal.returns
returns c =
    let loop = c.loop-line in
    let all = take_all loop.line-index c.args.lines.now c.loop-line-test.false in
    record { buffer = rw all at loop.invariant.0; count = rw all at loop.invariant.1 }
