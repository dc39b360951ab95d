-- One round of a film. Document 01, 'The plain day': "A(t) - A(t-1), C(t) - C(t-1), A(t) - C(t-1)", with A the just-in-time
-- schedule: what the round reads, sends and holds.
use Rattle.std.specs.Prelude.{◌≡◌, refl, true, List, [], ◌∷◌, ℕ, zero, suc, ◌+◌, ◌-◌, ◌<◌, min, length, get_or, drop}
use Rattle.std.proofs.Common.{not-suc-le-zero, le_of_suc-le-suc, arith, add-one}
use Rattle.retrieval.specs.declared.Round.{Round}
use Rattle.retrieval.specs.Schedule.{totals}
use Rattle.retrieval.specs.JustInTime.{just_in_time, exists_by}
use Rattle.retrieval.specs.Carry.{carry, profile}
use Rattle.retrieval.proofs.CarryLaws.{just_in_time-at, profile-at, carry-drop}
use Rattle.retrieval.proofs.Minimality.{exists_by-carry}
use Rattle.retrieval.specs.Round.{round_of, rule_round}

-- from what the round sends, and the carry of the rounds after it
pub round-carry : (b : ℕ) (xs : List ℕ) (t read send later : ℕ) → t < length xs → send ≡ get_or xs t 0 → later ≡ carry b (drop (t + 1) xs)
    → read ≡ min b (send + later) → ◌≡◌ {A = Round} (record { read = read; send = send; held = send + later }) (round_of b xs t)
round-carry b xs t read send later h es el er =
    let e : later ≡ carry b (drop (suc t) xs) = rw add-one at el in
    let k : send + later ≡ get_or (profile b xs) t 0 = omega (arith, profile-at b xs t h) in
    let r : read ≡ min b (get_or (profile b xs) t 0) = rw k at er in
    cc

-- C(t) is C(t-1) and what the round sends
pub totals-at : (c : ℕ) (xs : List ℕ) (t : ℕ) → t < length xs → get_or (totals c xs) t 0 ≡ get_or (c ∷ totals c xs) t 0 + get_or xs t 0
totals-at c [] t h = absurd (not-suc-le-zero h)
totals-at c (x ∷ xs) zero h = refl
totals-at c (x ∷ xs) (suc t) h = totals-at (c + x) xs t (le_of_suc-le-suc h)

-- A(t-1) is C(t-1) and the carry of the rounds from t on
just_in_time-prior : (b : ℕ) (xs : List ℕ) (t : ℕ) → carry b xs ≡ 0 → t < length xs
    → get_or (0 ∷ just_in_time b 0 xs) t 0 ≡ get_or (0 ∷ totals 0 xs) t 0 + carry b (drop t xs)
just_in_time-prior b xs zero e h = omega arith
just_in_time-prior b xs (suc t) e h =
    let l : t < length xs = omega arith in
    omega (arith, just_in_time-at b 0 xs t l, totals-at 0 xs t l)

-- where a schedule exists the two agree in every round
pub round-rule : (b : ℕ) (xs : List ℕ) (t : ℕ) → exists_by b xs ≡ true → t < length xs → round_of b xs t ≡ rule_round b xs t
round-rule b xs t e h =
    let z = (exists_by-carry b xs).0 e in
    let now = just_in_time-at b 0 xs t h in
    let prior = just_in_time-prior b xs t z h in
    let sent = totals-at 0 xs t h in
    let held = profile-at b xs t h in
    let turn = carry-drop b xs t h in
    let r : min b (get_or (profile b xs) t 0) ≡ get_or (just_in_time b 0 xs) t 0 - get_or (0 ∷ just_in_time b 0 xs) t 0 = omega arith in
    let s : get_or xs t 0 ≡ get_or (totals 0 xs) t 0 - get_or (0 ∷ totals 0 xs) t 0 = omega arith in
    let k : get_or (profile b xs) t 0 ≡ get_or (just_in_time b 0 xs) t 0 - get_or (0 ∷ totals 0 xs) t 0 = omega arith in
    cc
