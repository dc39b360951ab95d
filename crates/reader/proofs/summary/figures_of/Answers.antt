use Rattle.std.proofs.Common.{◌≡◌, ℕ, max, refl, ◌∙◌, arith, nat_cmp}
use Rattle.std.specs.Ordering.{ord_max}
use Rattle.std.proofs.lemmas.Bool.Decides.{nat_tests}
use Rattle.reader.proofs.SummaryLaws.{adding-more, adding-all}
use Rattle.reader.proofs.summary.figures_of.Goals as goal

ord_max-nat : (a b : ℕ) → ord_max nat_cmp a b ≡ max a b
ord_max-nat a b = grind (arith, nat_tests)

pub loop-i-preserved : goal.loop-i-preserved
loop-i-preserved c =
    let f = c.args.film.now in
    let larger : c.max-largest.result ≡ max c.loop-i.largest c.get-size.result = c.max-largest.ensures ∙ ord_max-nat c.loop-i.largest c.get-size.result in
    adding-more f.file.now f.at f.rounds _ _ c.loop-i.i _ _ f.stored c.loop-i.invariant c.loop-i-test.true c.get-size.ensures.at larger

pub returns : goal.returns
returns c =
    let f = c.args.film.now in
    adding-all f.file.now f.at f.rounds _ _ c.loop-i.i _ c.loop-i.invariant c.loop-i-test.false refl
