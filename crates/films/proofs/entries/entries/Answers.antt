use Rattle.std.proofs.Common.{length, sym, ap, ◌∙◌, arith}
use Rattle.films.proofs.Laws.{reading-none, order-refused, count-refused, reading-more, reading-all}
use Rattle.films.proofs.Span.{length-span}
use Rattle.films.specs.Catalogue.{entry_of}
use Rattle.films.proofs.entries.entries.Goals as goal

pub loop-i-init : goal.loop-i-init
loop-i-init c = rw c.new-films.ensures (reading-none c.args.file.now c.args.count c.requires.count c.requires.few)

pub returns-then-not-rises-clause-answer : goal.returns-then-not-rises-clause-answer
returns-then-not-rises-clause-answer c =
    sym (order-refused _ _ _ _ _ _ c.loop-i.invariant c.loop-i-test.true _ _ c.half_at-film.ensures c.half_at-rounds.ensures (sym c.rises.ensures ∙ c.if-not-rises.true))

pub returns-then-not-few-clause-answer : goal.returns-then-not-few-clause-answer
returns-then-not-few-clause-answer c =
    sym (count-refused _ _ _ _ _ _ c.loop-i.invariant c.loop-i-test.true _ _ c.half_at-film.ensures c.half_at-rounds.ensures (sym c.rises.ensures ∙ c.if-not-rises.false) (sym c.few.ensures ∙ c.if-not-few.true))

pub push-requires : goal.push-requires
push-requires c =
    let e = ap length c.loop-i.invariant.films-are ∙ length-span (entry_of c.args.file.now) 0 c.loop-i.i in
    (omega arith, omega arith)

pub loop-i-preserved : goal.loop-i-preserved
loop-i-preserved c =
    rw (c.push.ensures.items, c.from.ensures)
    (reading-more _ _ _ _ _ _ c.loop-i.invariant c.loop-i-test.true _ _ c.half_at-film.ensures c.half_at-rounds.ensures (sym c.rises.ensures ∙ c.if-not-rises.false) (sym c.few.ensures ∙ c.if-not-few.false))

pub returns-clause-list : goal.returns-clause-list
returns-clause-list c = (reading-all _ _ _ _ _ _ c.loop-i.invariant c.requires.count (omega arith)).0
