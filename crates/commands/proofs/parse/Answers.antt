-- `commands::parse` meets its contract. Assumes nothing.
use Rattle.std.proofs.Common.{arith, refl, sym, ap, ◌∙◌}
use Rattle.std.proofs.lemmas.Bool.Decides.{nat_tests}
use Rattle.commands.specs.Grammar.{first_word, later_words, by_verb}
use Rattle.commands.proofs.Commands.{begins, too_long, done, next, one_more, no_numeral, too_many}
use Rattle.commands.proofs.parse.Goals as goal

pub returns-then-line-gt-MAX_LINE : goal.returns-then-line-gt-MAX_LINE
returns-then-line-gt-MAX_LINE c = too_long c.args.line.now c.if-line-gt-MAX_LINE.true

pub loop-rest-init : goal.loop-rest-init
loop-rest-init c =
    let first = begins c.args.line.now c.if-line-gt-MAX_LINE.false in
    cc

pub returns-then-is_full : goal.returns-then-is_full
returns-then-is_full c =
    let loop = c.loop-rest in
    let verb = c.split_word.result.0.now in
    let words = c.in-Some.words in
    let n = next c.args.line.now verb loop.numerals.items loop.rest words (first_word words.now) loop.invariant c.in-Some.is refl in
    too_many verb loop.numerals.items (first_word words.now) (later_words words.now) (grind (arith, nat_tests)) ∙ sym n

pub returns-in_err-numeral : goal.returns-in_err-numeral
returns-in_err-numeral c =
    let loop = c.loop-rest in
    let verb = c.split_word.result.0.now in
    let words = c.in-Some.words in
    let word = c.split_word-in-Some.result.0.now in
    let n = next c.args.line.now verb loop.numerals.items loop.rest words word loop.invariant c.in-Some.is c.split_word-in-Some.ensures.word in
    c.from_residual.ensures ∙ no_numeral verb loop.numerals.items word (later_words words.now) (c.in_err-numeral.ensures) ∙ sym n

pub loop-rest-preserved : goal.loop-rest-preserved
loop-rest-preserved c =
    let loop = c.loop-rest in
    let verb = c.split_word.result.0.now in
    let words = c.in-Some.words in
    let word = c.split_word-in-Some.result.0.now in
    let n = next c.args.line.now verb loop.numerals.items loop.rest words word loop.invariant c.in-Some.is c.split_word-in-Some.ensures.word in
    let m = one_more verb loop.numerals.items word (later_words words.now) c.in_ok-numeral.field-0 (c.in_ok-numeral.ensures) in
    cc

pub returns : goal.returns
returns c =
    let loop = c.loop-rest in
    let verb = c.split_word.result.0.now in
    c.by_verb.ensures ∙ ap (by_verb verb) c.as_slice.ensures.value ∙ done c.args.line.now verb loop.numerals.items loop.rest loop.invariant c.in_default.is
