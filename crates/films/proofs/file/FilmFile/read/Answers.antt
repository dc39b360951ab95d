use Rattle.std.proofs.Common.{length, sym, ap, ◌∙◌, arith}
use Rattle.limits.proofs.Numbers.{number-from_residual}
use Rattle.films.proofs.Verdict.{headed, head-refused, entries-refused, last-answers}
use Rattle.films.proofs.CatalogueLaws.{listed-count}
use Rattle.films.proofs.file.FilmFile.read.Goals as goal

pub returns-in_err-count-clause-verdict : goal.returns-in_err-count-clause-verdict
returns-in_err-count-clause-verdict c =
    number-from_residual _ _ _ c.from_residual.ensures (head-refused c.args.bytes.now c.in_err-count.field-0.0 c.in_err-count.ensures.answer)

pub entries-requires : goal.entries-requires
entries-requires c =
    let h = headed c.args.bytes.now c.in_ok-count.ensures.answer in
    record { count = c.in_ok-count.ensures.count; few = omega (arith, c.in_ok-count.ensures.count, h.few); there = h.there }

pub returns-in_err-films-clause-verdict : goal.returns-in_err-films-clause-verdict
returns-in_err-films-clause-verdict c =
    let s = c.args.bytes.now in
    let n = c.in_ok-count.ensures in
    number-from_residual _ _ _ c.from_residual-in_err-films.ensures
    (entries-refused s c.in_err-films.field-0.0 (sym n.answer) (rw n.count at c.in_err-films.ensures.answer))

pub tail-requires : goal.tail-requires
tail-requires c =
    let s = c.args.bytes.now in
    let h = headed s c.in_ok-count.ensures.answer in
    let e = c.deref.ensures.0 ∙ c.in_ok-films.ensures.list in
    record { few = omega (arith, h.few, ap length e ∙ listed-count s); entries = e }

pub returns-in_err-tail-clause-verdict : goal.returns-in_err-tail-clause-verdict
returns-in_err-tail-clause-verdict c =
    let s = c.args.bytes.now in
    let n = c.in_ok-count.ensures in
    number-from_residual _ _ _ c.from_residual-in_err-tail.ensures
    (c.in_err-tail.ensures ∙ sym (last-answers s (sym n.answer) (sym (rw n.count at c.in_ok-films.ensures.answer))))

pub invariant_of-result : goal.invariant_of-result
invariant_of-result c =
    let s = c.args.bytes.now in
    let n = c.in_ok-count.ensures in
    record {
      accepted = last-answers s (sym n.answer) (sym (rw n.count at c.in_ok-films.ensures.answer)) ∙ sym c.in_ok-tail.ensures;
      catalogue = c.in_ok-films.ensures.list;
    }
