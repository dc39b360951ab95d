use Rattle.std.proofs.Common.{◌≡◌, Ok, Err, sym, ap, ◌∙◌}
use Rattle.limits.specs.Refusals.{no_film, number_of}
use Rattle.limits.specs.declared.refusals.Refusal.TheVariants.{NoFilm}
use Rattle.limits.proofs.Numbers.{numbered-from_residual, number-not_zero}
use Rattle.reader.specs.Summary.{figures_of}
use Rattle.reader.proofs.SummaryLaws.{summary-refused, summary-missing, summary-found, summary-said}
use Rattle.reader.proofs.summary.summary.Goals as goal

pub returns-in_err-file : goal.returns-in_err-file
returns-in_err-file c =
    let s = c.args.file.now in
    let v = c.in_err-file.ensures.verdict in
    let e = numbered-from_residual _ _ c.from_residual.ensures ∙ ap Err v ∙ sym (summary-refused s c.args.film (λ z. number-not_zero _ (v ∙ z))) in
    record { answer = e; said = summary-said s c.args.film _ e }

pub returns-in_err-sizes : goal.returns-in_err-sizes
returns-in_err-sizes c =
    let s = c.args.file.now in
    let f = c.in_ok-file.ensures in
    let none = c.in_err-sizes.ensures.ok_part in
    let no = rw f.bytes at (rw none at c.sizes.ensures.missing) in
    let r = rw none at c.in_err-sizes.ensures.value in
    let is : c.in_err-sizes.field-0.0 ≡ NoFilm = cc in
    let k : number_of c.in_err-sizes.field-0.0 ≡ no_film = ap number_of is in
    let e = numbered-from_residual _ _ c.from_residual-in_err-sizes.ensures ∙ ap Err k ∙ sym (summary-missing s c.args.film (sym f.verdict) no) in
    record { answer = e; said = summary-said s c.args.film _ e }

pub figures_of-requires : goal.figures_of-requires
figures_of-requires c = (rw c.in_ok-sizes.ensures.ok_part at c.sizes.ensures.found).some

pub returns : goal.returns
returns c =
    let s = c.args.file.now in
    let f = c.in_ok-file.ensures in
    let z = c.in_ok-sizes.sizes in
    let found = rw f.bytes at (rw c.in_ok-sizes.ensures.ok_part at c.sizes.ensures.found) in
    let bytes = rw c.in_ok-sizes.ensures.ok_part at c.sizes.ensures.bytes in
    let same : z.file.now ≡ s = bytes ∙ f.bytes in
    let figures = rw same at c.figures_of.ensures in
    let e = ap Ok (figures ∙ ap figures_of (sym found.are)) ∙ sym (summary-found s c.args.film (sym f.verdict) found.inside) in
    record { answer = e; said = summary-said s c.args.film (Ok c.figures_of.result) e }
