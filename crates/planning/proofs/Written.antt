-- The just-in-time totals where they are written, from the last place backward. Assumes nothing.
use Rattle.std.specs.Prelude.{◌≡◌, refl, List, [], ◌∷◌, ℕ, zero, suc, ◌+◌, ◌-◌, ◌≤◌, ◌<◌, max, length, get_or, drop}
use Rattle.std.proofs.Common.{not-suc-le-zero, arith, le_of_suc-le-suc}
use Rattle.laws.specs.Sums.{sum}
use Rattle.retrieval.specs.Schedule.{sends, totals}
use Rattle.retrieval.specs.JustInTime.{just_in_time}
use Rattle.retrieval.proofs.Minimality.{just_in_time-last, just_in_time-before}
use Rattle.retrieval.proofs.RoundLaws.{totals-at}

-- ---- sums

pub sum-sends : (p : ℕ) (xs : List ℕ) → sum (sends p xs) ≡ sum xs
sum-sends zero xs = refl
sum-sends (suc p) xs = omega (arith, sum-sends p xs)

-- ---- C by its place: C(k-1) stands at k behind C(-1)

pub totals-sum : (c : ℕ) (xs : List ℕ) → get_or (c ∷ totals c xs) (length xs) 0 ≡ c + sum xs
totals-sum c [] = omega arith
totals-sum c (x ∷ xs) = omega (arith, totals-sum (c + x) xs)

-- ---- a turn of a loop from k to k - 1, where C(k-1) is sent and x is what the round sends

pub turn-sent : (k x sent : ℕ) (xs : List ℕ) → 0 < k → k ≤ length xs → sent ≡ get_or (0 ∷ totals 0 xs) k 0 → x ≡ get_or xs (k - 1) 0
    → sent ≡ get_or (0 ∷ totals 0 xs) (k - 1) 0 + x
turn-sent zero x sent xs h l es ex = absurd (not-suc-le-zero h)
turn-sent (suc k) x sent xs h l es ex =
    let e : suc k - 1 ≡ k = omega arith in
    let ex' : x ≡ get_or xs k 0 = rw e at ex in
    rw e (omega (arith, totals-at 0 xs k l))

-- "in the last round A = C"
pub start-rule : (b k total : ℕ) (xs : List ℕ) → 0 < k → k ≡ length xs → total ≡ sum xs
    → max total (total - b) ≡ get_or (just_in_time b 0 xs) (k - 1) 0
start-rule b k total [] h l e = absurd (omega arith)
start-rule b k total (x ∷ xs) h l e =
    let d : k - 1 ≡ length xs = omega arith in
    rw d (omega (arith, just_in_time-last b 0 x xs, totals-sum 0 (x ∷ xs)))

-- "before it, A(t) is the larger of C(t) and A(t+1) - b, the latter taken as 0 if negative"
pub turn-rule : (b k due sent : ℕ) (xs : List ℕ) → 0 < k - 1 → k ≤ length xs → due ≡ get_or (just_in_time b 0 xs) (k - 1) 0
    → sent ≡ get_or (0 ∷ totals 0 xs) (k - 1) 0 → max sent (due - b) ≡ get_or (just_in_time b 0 xs) ((k - 1) - 1) 0
turn-rule b zero due sent xs h l ed es = absurd (omega arith)
turn-rule b (suc zero) due sent xs h l ed es = absurd (omega arith)
turn-rule b (suc (suc t)) due sent xs h l ed es =
    let d : suc (suc t) - 1 ≡ suc t = omega arith in
    let d' : (suc (suc t) - 1) - 1 ≡ t = omega arith in
    let ed' : due ≡ get_or (just_in_time b 0 xs) (suc t) 0 = rw d at ed in
    let es' : sent ≡ get_or (totals 0 xs) t 0 = rw d at es in
    rw d' (omega (arith, just_in_time-before b 0 xs t l))

sum_drop : (xs : List ℕ) (t : ℕ) → t < length xs → sum (drop t xs) ≡ get_or xs t 0 + sum (drop (suc t) xs)
sum_drop [] t h = absurd (not-suc-le-zero h)
sum_drop (x ∷ xs) zero h = refl
sum_drop (x ∷ xs) (suc t) h = sum_drop xs t (le_of_suc-le-suc h)

-- a turn of a loop from k to k - 1 that adds
pub turn-sum : (k x a : ℕ) (xs : List ℕ) → 0 < k → k ≤ length xs → a ≡ sum (drop k xs) → x ≡ get_or xs (k - 1) 0
    → a + x ≡ sum (drop (k - 1) xs)
turn-sum zero x a xs h l ea ex = absurd (not-suc-le-zero h)
turn-sum (suc k) x a xs h l ea ex =
    let e : suc k - 1 ≡ k = omega arith in
    let ex' : x ≡ get_or xs k 0 = rw e at ex in
    rw e (omega (arith, sum_drop xs k l))
