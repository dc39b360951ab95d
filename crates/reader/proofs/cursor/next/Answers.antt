-- Each of the three cases of a step. Assumes nothing.
use Rattle.std.proofs.Common.{sym, arith}
use Rattle.reader.specs.ReaderLaws.{gives, step-refused, step-film, step_end}
use Rattle.reader.proofs.cursor.next.Goals as goal

pub returns-then-reader-ne0 : goal.returns-then-reader-ne0
returns-then-reader-ne0 c =
    let s = c.args.file.now in
    let r = c.args.reader.now in
    gives s r _ (sym (step-refused s r c.if-reader-ne0.true))

pub returns-then-count-position : goal.returns-then-count-position
returns-then-count-position c =
    let s = c.args.file.now in
    let r = c.args.reader.now in
    gives s r _ (sym (step_end s r c.if-reader-ne0.false (omega arith)))

pub returns : goal.returns
returns c =
    let s = c.args.file.now in
    let r = c.args.reader.now in
    rw (c.half_or_zero-number.ensures, c.half_or_zero-rounds.ensures)
    (gives s r _ (sym (step-film s r c.if-reader-ne0.false (omega arith))))
