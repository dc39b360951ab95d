-- The number of an answer, as callers of calls that may refuse need it. Assumes nothing.
use Rattle.std.specs.Prelude.{ℕ, ◌<◌, ◌≡◌, refl, Result, Ok, Err, IsErr}
use Rattle.std.specs.Result.{IsErrAnd}
use Rattle.std.proofs.Common.{ap, ◌∙◌, arith}
use Rattle.limits.specs.Refusals.{number_of, number}
use Rattle.limits.specs.Numbered.{numbered, answer_number}
use Rattle.limits.specs.declared.refusals.Refusal.{Refusal}
use Rattle.limits.specs.declared.refusals.Refusal.TheVariants.{Truncated, FilmCount, FilmOrder, RoundCount, SizeCount, SizeBound, Trailing, NoFilm, Prefetch, Reserve, NoRoom, NoSchedule, Cap, DayRounds, DayLimits, Unsound, ListFull, NameTaken, NoName, NoCab, Window, NoStart, DayOver, Command, FileSize}

-- no refusal has the number of an accepted call
pub number-positive : (e : Refusal) → 0 < number_of e
number-positive Truncated = omega arith
number-positive FilmCount = omega arith
number-positive FilmOrder = omega arith
number-positive RoundCount = omega arith
number-positive SizeCount = omega arith
number-positive SizeBound = omega arith
number-positive Trailing = omega arith
number-positive NoFilm = omega arith
number-positive Prefetch = omega arith
number-positive Reserve = omega arith
number-positive NoRoom = omega arith
number-positive NoSchedule = omega arith
number-positive Cap = omega arith
number-positive DayRounds = omega arith
number-positive DayLimits = omega arith
number-positive Unsound = omega arith
number-positive ListFull = omega arith
number-positive NameTaken = omega arith
number-positive NoName = omega arith
number-positive NoCab = omega arith
number-positive Window = omega arith
number-positive NoStart = omega arith
number-positive DayOver = omega arith
number-positive Command = omega arith
number-positive FileSize = omega arith

pub number-not_zero : (e : Refusal) → number_of e ≡ 0 → ⊥
number-not_zero e z = omega (arith, number-positive e)

-- what a `?` returns has the number of the refusal that it came upon
pub number-from_residual : {A : Type 0} (r : Result A Refusal) (e : Refusal) (v : ℕ) → IsErr r × IsErrAnd r (λ x. x ≡ e) → number_of e ≡ v → number r ≡ v
number-from_residual (Ok x) e v h q = absurd h.1
number-from_residual (Err x) e v h q = ap number_of h.1 ∙ q

pub number-numbered : {A : Type 0} (r : Result A Refusal) → number r ≡ answer_number (numbered r)
number-numbered (Ok x) = refl
number-numbered (Err x) = refl

pub numbered-from_residual : {A : Type 0} (r : Result A Refusal) (e : Refusal) → IsErr r × IsErrAnd r (λ x. x ≡ e) → numbered r ≡ Err (number_of e)
numbered-from_residual (Ok x) e h = absurd h.1
numbered-from_residual (Err x) e h = rw h.1
