-- Each return is the first "no" of the questions in their order, and there is one least reserve.
use Rattle.std.proofs.Common.{◌≤◌, arith}
use Rattle.limits.specs.declared.refusals.Refusal.TheVariants.{Prefetch, Cap}
use Rattle.laws.specs.Sums.{largest}
use Rattle.films.specs.Sizes.{sizes}
use Rattle.retrieval.specs.Schedule.{sends}
use Rattle.retrieval.specs.LeastReserve.{least_reserve}
use Rattle.retrieval.proofs.ReserveLaws.{largest-serves, least-unique, least_reserve-least}
use Rattle.retrieval.proofs.Stored.{largest-small}
use Rattle.planning.proofs.AnswerLaws.{cap-prefetch, cap-small, cap-passes, refused, accepted}
use Rattle.planning.proofs.reserves.least.Goals as goal

pub returns-then-p-gt-MAX_PREFETCH : goal.returns-then-p-gt-MAX_PREFETCH
returns-then-p-gt-MAX_PREFETCH c =
    let a = c.args in
    let xs = sizes a.film.now.file.now a.film.now.at a.film.now.rounds in
    refused _ _ Prefetch (cap-prefetch xs a.p a.cap (omega arith))

pub returns-then-cap-high : goal.returns-then-cap-high
returns-then-cap-high c =
    let a = c.args in
    let xs = sizes a.film.now.file.now a.film.now.at a.film.now.rounds in
    refused _ _ Cap (cap-small xs a.p a.cap (omega arith) (omega arith))

pub invariant_of-film : goal.invariant_of-film
invariant_of-film c =
    let z = c.args.film.now in
    let small = largest-small z.file.now z.at z.rounds z.stored in
    record { in_range = record { stored = z.stored; prefetch = omega arith; reserve = omega arith } }

pub search-requires : goal.search-requires
search-requires c =
    let z = c.args.film.now in
    let xs = sizes z.file.now z.at z.rounds in
    rw c.largest-high.ensures (largest-serves c.args.p c.args.cap xs (omega arith))

pub returns : goal.returns
returns c =
    let a = c.args in
    let xs = sizes a.film.now.file.now a.film.now.at a.film.now.rounds in
    let ys = sends a.p xs in
    let fits : largest xs ≤ a.cap = omega arith in
    accepted _ c.search.result (least_reserve ys a.cap) (cap-passes xs a.p a.cap (omega arith) fits)
    (least-unique ys a.cap c.search.result (least_reserve ys a.cap) c.search.ensures (least_reserve-least a.p a.cap xs fits))
