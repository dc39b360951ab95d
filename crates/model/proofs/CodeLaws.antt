-- What the code's proofs need of the definitions: one more booking, the sheet by its rounds, what a booking holds by its profile,
-- cabs by pairs. Assumes nothing.
use Rattle.std.specs.Prelude.{◌≡◌, cond, List, [], ◌∷◌, ◌++◌, ℕ, zero, suc, ◌+◌, ◌-◌, ◌<◌, get_or}
use Rattle.std.proofs.Common.{ap, ◌∙◌, not-suc-le-zero, le_of_suc-le-suc, arith}
use Rattle.retrieval.specs.Carry.{profile}
use Rattle.retrieval.proofs.Laws.{just_in_time-helds}
use Rattle.model.specs.Day.{Setting, total, sending, open_at, schedule_of, held_at}
use Rattle.model.specs.Calls.{per_round}
use Rattle.model.specs.declared.Booking.{Booking}
unfoldable pub use Rattle.model.proofs.CabLaws.{clash}
pub use Rattle.model.proofs.CabLaws.{pairs_clear, pairs-showing, pairs-iff}

-- one more booking: its load is added to the standing ones'
pub total-snoc : (f : Booking → ℕ) (bs : List Booking) (b : Booking) → total f (bs ++ (b ∷ [])) ≡ total f bs + f b
total-snoc f [] b = omega arith
total-snoc f (x ∷ xs) b = omega (arith, total-snoc f xs b)

-- the sheet's list in one round
pub per_round-at : (f : ℕ → ℕ) (s n t : ℕ) → t < n → get_or (per_round f s n) t 0 ≡ f (s + t)
per_round-at f s zero t u = absurd (not-suc-le-zero u)
per_round-at f s (suc n) zero u = ap f (omega arith)
per_round-at f s (suc n) (suc t) u = per_round-at f (suc s) n t (le_of_suc-le-suc u) ∙ ap f (omega arith)

-- what a booking holds by its schedule is its profile, from its start on
pub held-profile : (S : Setting) (t : ℕ) (b : Booking)
    → held_at S t b (schedule_of S b) ≡ cond (open_at S t b) (get_or (profile b.reserve (sending S b)) (t - b.start) 0) 0
held-profile S t b = rw (just_in_time-helds b.reserve 0 (sending S b))
