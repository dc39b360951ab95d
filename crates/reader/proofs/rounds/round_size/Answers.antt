use Rattle.std.proofs.Common.{◌≡◌, ◌<◌, ◌≤◌, arith, Ok, Err, Some, None, sym, ap, ◌∙◌}
use Rattle.limits.specs.declared.refusals.Refusal.TheVariants.{NoFilm}
use Rattle.limits.proofs.Numbers.{numbered-from_residual, number-not_zero}
use borrow.Author.Tests.{le-ltb, lt-ltb}
use Rattle.limits.specs.Refusals.{no_film, number_of}
use Rattle.reader.proofs.RoundLaws.{of-refused, of-missing, of-found, round-said}
use Rattle.reader.proofs.rounds.round_size.Goals as goal

pub returns-in_err-file : goal.returns-in_err-file
returns-in_err-file c =
    let s = c.args.file.now in
    let v = c.in_err-file.ensures.verdict in
    let e = numbered-from_residual _ _ c.from_residual.ensures ∙ ap Err v ∙ sym (of-refused s c.args.film c.args.i (λ z. number-not_zero _ (v ∙ z))) in
    record { answer = e; said = round-said s c.args.film c.args.i _ e }

pub returns-in_err-sizes : goal.returns-in_err-sizes
returns-in_err-sizes c =
    let s = c.args.file.now in
    let f = c.in_ok-file.ensures in
    let none = c.in_err-sizes.ensures.ok_part in
    let no = rw f.bytes at (rw none at c.sizes.ensures.missing) in
    let r = rw none at c.in_err-sizes.ensures.value in
    let is : c.in_err-sizes.field-0.0 ≡ NoFilm = cc in
    let k : number_of c.in_err-sizes.field-0.0 ≡ no_film = ap number_of is in
    let e = numbered-from_residual _ _ c.from_residual-in_err-sizes.ensures ∙ ap Err k ∙ sym (of-missing s c.args.film c.args.i (sym f.verdict) no) in
    record { answer = e; said = round-said s c.args.film c.args.i _ e }

pub returns-then-sizes-i : goal.returns-then-sizes-i
returns-then-sizes-i c =
    let s = c.args.file.now in
    let f = c.in_ok-file.ensures in
    let found = rw f.bytes at (rw c.in_ok-sizes.ensures.ok_part at c.sizes.ensures.found) in
    let past : c.in_ok-sizes.sizes.rounds ≤ c.args.i = omega arith in
    let e = sym (of-found s c.args.film c.args.i _ _ (sym f.verdict) found ∙ rw (le-ltb _ _ past)) in
    record { answer = e; said = round-said s c.args.film c.args.i (Ok None) e }

pub returns : goal.returns
returns c =
    let s = c.args.file.now in
    let f = c.in_ok-file.ensures in
    let z = c.in_ok-sizes.sizes in
    let found = rw f.bytes at (rw c.in_ok-sizes.ensures.ok_part at c.sizes.ensures.found) in
    let bytes = rw c.in_ok-sizes.ensures.ok_part at c.sizes.ensures.bytes in
    let same : z.file.now ≡ s = bytes ∙ f.bytes in
    let size = rw same at c.get.ensures.round in
    let within : c.args.i < z.rounds = omega arith in
    let e = ap (λ x. Ok (Some x)) size ∙ sym (of-found s c.args.film c.args.i z.at z.rounds (sym f.verdict) found ∙ rw (lt-ltb _ _ within)) in
    record { answer = e; said = round-said s c.args.film c.args.i (Ok (Some c.get.result)) e }
