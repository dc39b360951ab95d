use Rattle.std.proofs.Common.{length, ap, ◌∙◌, arith}
use Rattle.std.proofs.lemmas.Bool.Decides.{nat_tests}
use Rattle.films.specs.Questions.{size_questions}
use Rattle.films.proofs.CatalogueLaws.{listed-count, asked, small-asked}
use Rattle.films.proofs.sizes.tail.Goals as goal

pub returns-then-file-from : goal.returns-then-file-from
unfolding size_questions
returns-then-file-from c =
    let n = ap length c.requires.entries ∙ listed-count c.args.file.now in
    grind (arith, nat_tests)

pub returns-then-size_at-total : goal.returns-then-size_at-total
unfolding size_questions
returns-then-size_at-total c =
    let s = c.args.file.now in
    let a = asked s _ _ _ c.requires.entries c.rounds_of-total.ensures c.size_at.ensures in
    grind (arith, nat_tests)

pub returns-then-file-end : goal.returns-then-file-end
unfolding size_questions
returns-then-file-end c =
    let s = c.args.file.now in
    let a = asked s _ _ _ c.requires.entries c.rounds_of-total.ensures c.size_at.ensures in
    grind (arith, nat_tests)

pub returns-then-not-small : goal.returns-then-not-small
unfolding size_questions
returns-then-not-small c =
    let s = c.args.file.now in
    let a = asked s _ _ _ c.requires.entries c.rounds_of-total.ensures c.size_at.ensures in
    let m = small-asked s _ _ _ a (omega arith) in
    grind (arith, nat_tests)

pub returns-then-end-file : goal.returns-then-end-file
unfolding size_questions
returns-then-end-file c =
    let s = c.args.file.now in
    let a = asked s _ _ _ c.requires.entries c.rounds_of-total.ensures c.size_at.ensures in
    let m = small-asked s _ _ _ a (omega arith) in
    grind (arith, nat_tests)

pub returns : goal.returns
unfolding size_questions
returns c =
    let s = c.args.file.now in
    let a = asked s _ _ _ c.requires.entries c.rounds_of-total.ensures c.size_at.ensures in
    let m = small-asked s _ _ _ a (omega arith) in
    grind (arith, nat_tests)
