-- The paper's claims on schedules, each under its sentence of document 01, 'The schedule rule', for films of every length.
-- Round t of a list is `get_or l t 0`; with a value in front, `get_or (v ∷ l) t 0` is round t - 1. Assumes nothing.
use Rattle.std.specs.Prelude.{◌≡◌, ◌↔◌, true, List, ◌∷◌, ℕ, suc, ◌-◌, ◌*◌, ◌≤◌, ◌<◌, max, length, get_or}
use Rattle.std.proofs.Common.{arith}
use Rattle.laws.specs.Sums.{largest}
use Rattle.retrieval.specs.Schedule.{sends, totals, Schedule, helds}
use Rattle.retrieval.specs.JustInTime.{just_in_time, exists_by}
use Rattle.retrieval.specs.LeastReserve.{Least, least_reserve}
use Rattle.retrieval.proofs.CarryLaws.{just_in_time-helds, profile-mono}
use Rattle.retrieval.proofs.Minimality.{just_in_time-last, just_in_time-before, just_in_time-schedule, schedule-carry, reads-least, reads-helds, exists_by-iff, exists-paced}
use Rattle.retrieval.specs.Round.{rule_round, round_of}
use Rattle.retrieval.proofs.RoundLaws.{round-rule}
use Rattle.retrieval.proofs.ReserveLaws.{schedule-mono, least-exists, least-unique, least_reserve-least}

-- "in the last round A = C"
pub last-round : (b x : ℕ) (xs : List ℕ) → get_or (just_in_time b 0 (x ∷ xs)) (length xs) 0 ≡ get_or (totals 0 (x ∷ xs)) (length xs) 0
last-round b x xs = just_in_time-last b 0 x xs

-- "before it, A(t) is the larger of C(t) and A(t+1) - b, the latter taken as 0 if negative"
pub earlier-rounds : (b : ℕ) (xs : List ℕ) (t : ℕ) → suc t < length xs
    → get_or (just_in_time b 0 xs) t 0 ≡ max (get_or (totals 0 xs) t 0) (get_or (just_in_time b 0 xs) (suc t) 0 - b)
earlier-rounds b xs t h = just_in_time-before b 0 xs t h

-- "A schedule exists exactly if this gives A(0) ≤ b."
pub schedule-exists : (b : ℕ) (xs : List ℕ) → (exists_by b xs ≡ true) ↔ ((rs : List ℕ) × Schedule xs b rs)
schedule-exists b xs = exists_by-iff b xs

-- exactly if C(t) ≤ (t+1) * b in every round
pub schedule-exists-paced : (b : ℕ) (xs : List ℕ)
    → ((rs : List ℕ) × Schedule xs b rs) ↔ ((t : ℕ) → t < length xs → get_or (totals 0 xs) t 0 ≤ suc t * b)
schedule-exists-paced b xs = exists-paced b xs

-- where one exists, the just-in-time list is one
pub just_in_time-is-schedule : (b : ℕ) (xs rs : List ℕ) → Schedule xs b rs → Schedule xs b (just_in_time b 0 xs)
just_in_time-is-schedule b xs rs s = just_in_time-schedule b xs (schedule-carry b xs rs s)

-- and has read no more than any other, up to every round
pub just_in_time-least : (b : ℕ) (xs rs : List ℕ) → Schedule xs b rs → (t : ℕ) → t < length xs
    → get_or (just_in_time b 0 xs) t 0 ≤ get_or rs t 0
just_in_time-least b xs rs s t h = reads-least b 0 0 xs rs (omega arith) s t h

-- "It then holds no more than any other schedule in each round."
pub just_in_time-holds-least : (b : ℕ) (xs rs : List ℕ) → Schedule xs b rs → (t : ℕ) → t < length xs
    → get_or (helds 0 xs (just_in_time b 0 xs)) t 0 ≤ get_or (helds 0 xs rs) t 0
just_in_time-holds-least b xs rs s t h = rw (just_in_time-helds b 0 xs) (reads-helds b 0 0 xs rs (omega arith) s t h)

-- what the code computes of a round is the paper's "A(t) - A(t-1), C(t) - C(t-1), A(t) - C(t-1)"
pub round-is-rule : (b : ℕ) (xs rs : List ℕ) → Schedule xs b rs → (t : ℕ) → t < length xs → round_of b xs t ≡ rule_round b xs t
round-is-rule b xs rs s t h = round-rule b xs t ((exists_by-iff b xs).1 (rs, s)) h

-- a larger reserve keeps existence
pub larger-reserve-exists : (b b' : ℕ) (xs rs : List ℕ) → b ≤ b' → Schedule xs b rs → Schedule xs b' (just_in_time b' 0 xs)
larger-reserve-exists b b' xs rs h s = schedule-mono b b' xs rs h s

-- and holds no more in any round than any schedule at the smaller one
pub larger-reserve-holds : (b b' : ℕ) (xs rs : List ℕ) → b ≤ b' → Schedule xs b rs → (t : ℕ) → t < length xs
    → get_or (helds 0 xs (just_in_time b' 0 xs)) t 0 ≤ get_or (helds 0 xs rs) t 0
larger-reserve-holds b b' xs rs h s t l =
    rw (just_in_time-helds b' 0 xs) (omega (arith, profile-mono b b' xs h t, reads-helds b 0 0 xs rs (omega arith) s t l))

-- "The least reserve for film, p and memory cap is the smallest b that has a schedule with peak at most the cap": there is one
-- exactly if the answer to "Is the cap at least the film's largest size?" is yes,
pub least-reserve-exists : (p cap : ℕ) (sizes : List ℕ) → ((b : ℕ) × Least (sends p sizes) cap b) ↔ (largest sizes ≤ cap)
least-reserve-exists p cap sizes = least-exists p cap sizes

-- no other,
pub least-reserve-unique : (p cap b b' : ℕ) (sizes : List ℕ) → Least (sends p sizes) cap b → Least (sends p sizes) cap b' → b ≡ b'
least-reserve-unique p cap b b' sizes l m = least-unique (sends p sizes) cap b b' l m

-- and it is the number that the answers cite
pub least-reserve-number : (p cap : ℕ) (sizes : List ℕ) → largest sizes ≤ cap → Least (sends p sizes) cap (least_reserve (sends p sizes) cap)
least-reserve-number p cap sizes h = least_reserve-least p cap sizes h
