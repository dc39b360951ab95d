-- The file's questions, the film's, and the rest by `least`.
use Rattle.std.proofs.Common.{◌≡◌, sym, ◌∙◌}
use Rattle.films.specs.Questions.{verdict}
use Rattle.films.specs.Layout.{sizes_of}
use Rattle.films.specs.Decode.{films_of}
use Rattle.films.specs.Lookup.{FoundAt}
use Rattle.planning.specs.Answers.{cap_questions, reserve_questions}
use Rattle.planning.proofs.FileAnswers.{missing-film, found-film, asked-file, asked-missing, reserve-refused, reserve-found, reserved-said}
use Rattle.planning.proofs.reserves.least_reserve.Goals as goal

pub returns-in_err-films : goal.returns-in_err-films
unfolding reserve_questions
returns-in_err-films c =
    let a = c.args in
    let s = a.file.now in
    let q = asked-file s a.film (cap_questions (sizes_of (films_of s) a.film) a.p a.cap) c.in_err-films.field-0.0 c.in_err-films.ensures.verdict in
    let w = reserved-said s a.film a.p a.cap _ (reserve-refused s a.film a.p a.cap _ _ c.from_residual.ensures q) in
    record { answer = w.0; least = w.1.0; said = w.1.1 }

pub returns-in_err-sizes : goal.returns-in_err-sizes
unfolding reserve_questions
returns-in_err-sizes c =
    let a = c.args in
    let s = a.file.now in
    let same = c.in_ok-films.ensures.bytes in
    let accepted : verdict s ≡ 0 = rw same at c.in_ok-films.films.accepted in
    let none = missing-film c.sizes.result c.in_err-sizes.field-0.0 c.in_err-sizes.ensures.value c.sizes.ensures.missing in
    let q = asked-missing s a.film (cap_questions (sizes_of (films_of s) a.film) a.p a.cap) accepted (rw same at none.0) ∙ sym none.1 in
    let w = reserved-said s a.film a.p a.cap _ (reserve-refused s a.film a.p a.cap _ _ c.from_residual-in_err-sizes.ensures q) in
    record { answer = w.0; least = w.1.0; said = w.1.1 }

pub returns : goal.returns
returns c =
    let a = c.args in
    let s = a.file.now in
    let z = c.in_ok-sizes.sizes in
    let same = c.in_ok-films.ensures.bytes in
    let accepted : verdict s ≡ 0 = rw same at c.in_ok-films.films.accepted in
    let film = found-film _ a.film c.sizes.result z c.in_ok-sizes.ensures.value c.sizes.ensures.found c.sizes.ensures.bytes in
    let found : FoundAt s a.film z.at z.rounds = rw same at film.0 in
    let bytes : z.file.now ≡ s = film.1 ∙ same in
    let w = reserved-said s a.film a.p a.cap _ (reserve-found s a.film a.p a.cap z.at z.rounds _ accepted found (rw bytes at c.least.ensures)) in
    record { answer = w.0; least = w.1.0; said = w.1.1 }
