-- `booking::request::ask_own` meets its contract: from 21 on, a film's rounds are as many as its sizes. Assumes nothing.
use Rattle.std.proofs.Common.{◌≡◌, ap, ◌∙◌, List, ℕ, length, rules}
use Rattle.films.proofs.SizeLaws.{length-sizes}
use Rattle.films.specs.Layout.{sizes_of}
use Rattle.films.specs.Lookup.{FoundAt}
use Rattle.films.specs.Decode.{films_of}
use Rattle.model.specs.Day.{exists}
use Rattle.model.specs.Questions.{book_own, record_questions, window_open}
use Rattle.booking.specs.Own.{window_holds, place_holds}
use Rattle.booking.proofs.request.ask_own.Goals as goal

rounds-of : (f : List ℕ) (k at n : ℕ) → FoundAt f k at n → length (sizes_of (films_of f) k) ≡ n
rounds-of f k at n found = ap length found.are ∙ length-sizes f at n

pub returns-then-not-window_holds : goal.returns-then-not-window_holds
unfolding book_own record_questions window_open exists window_holds place_holds
returns-then-not-window_holds c = let n = rounds-of c.args.file.now.bytes.now c.args.request.film _ _ c.in-Some.ensures.found in search rules

pub returns-then-not-place_holds : goal.returns-then-not-place_holds
unfolding book_own record_questions window_open exists window_holds place_holds
returns-then-not-place_holds c = let n = rounds-of c.args.file.now.bytes.now c.args.request.film _ _ c.in-Some.ensures.found in search rules

pub returns : goal.returns
unfolding book_own record_questions window_open exists window_holds place_holds
returns c = let n = rounds-of c.args.file.now.bytes.now c.args.request.film _ _ c.in-Some.ensures.found in search rules
