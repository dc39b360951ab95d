-- `commands::numeral` meets its contract. Assumes nothing.
use Rattle.std.proofs.Common.{arith, sym, ◌∙◌}
use Rattle.std.proofs.lemmas.Bool.Decides.{nat_tests}
use Rattle.commands.proofs.Numerals.{whole, none-over, some-end}
use Rattle.commands.proofs.numeral.Goals as goal

pub loop-byte-init : goal.loop-byte-init
loop-byte-init c = (omega arith, whole c.args.word.now (grind (arith, nat_tests)) (omega arith))

pub returns-in_err-checked_mul : goal.returns-in_err-checked_mul
returns-in_err-checked_mul c =
    let loop = c.loop-byte in
    c.from_residual.ensures
    ∙ none-over c.args.word.now loop.value loop.byte-index c.loop-byte-test.true (omega arith)
    ∙ sym loop.invariant.1

pub returns-in_err-value : goal.returns-in_err-value
returns-in_err-value c =
    let loop = c.loop-byte in
    c.from_residual-in_err-value.ensures
    ∙ none-over c.args.word.now loop.value loop.byte-index c.loop-byte-test.true (omega (arith, c.in_ok-checked_mul.ensures, c.from.ensures, c.in_err-value.ensures))
    ∙ sym loop.invariant.1

pub returns : goal.returns
returns c =
    let loop = c.loop-byte in
    some-end c.args.word.now loop.value loop.byte-index c.loop-byte-test.false loop.invariant.0 ∙ sym loop.invariant.1
