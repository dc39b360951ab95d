-- Laws of the carry: the just-in-time totals and what they hold by the carry, a round at a time, the pre-fetch, a larger
-- reserve, bounds. Assumes nothing.
use Rattle.std.specs.Prelude.{◌≡◌, refl, List, [], ◌∷◌, ℕ, zero, suc, ◌+◌, ◌-◌, ◌*◌, ◌≤◌, ◌<◌, max, length, get_or, drop}
use Rattle.std.proofs.Common.{ap, not-suc-le-zero, le_of_suc-le-suc, suc-mul, mul-suc, zero-mul, arith}
use Rattle.laws.specs.Sums.{largest}
use Rattle.retrieval.specs.Schedule.{sends, totals, helds}
use Rattle.retrieval.specs.JustInTime.{due, just_in_time}
use Rattle.retrieval.specs.Carry.{carry, profile}

-- the just-in-time total is what was sent before, what the round sends, and the carry of the rest
pub due-carry : (b c x : ℕ) (xs : List ℕ) → due b c x xs ≡ c + (x + carry b xs)
due-carry b c x [] = omega arith
due-carry b c x (y ∷ ys) = omega (arith, due-carry b (c + x) y ys)

pub just_in_time-at : (b c : ℕ) (xs : List ℕ) (t : ℕ) → t < length xs
    → get_or (just_in_time b c xs) t 0 ≡ get_or (c ∷ totals c xs) t 0 + (get_or xs t 0 + carry b (drop (suc t) xs))
just_in_time-at b c [] t h = absurd (not-suc-le-zero h)
just_in_time-at b c (x ∷ xs) zero h = due-carry b c x xs
just_in_time-at b c (x ∷ xs) (suc t) h = just_in_time-at b (c + x) xs t (le_of_suc-le-suc h)

-- what the just-in-time schedule holds
pub just_in_time-helds : (b c : ℕ) (xs : List ℕ) → helds c xs (just_in_time b c xs) ≡ profile b xs
just_in_time-helds b c [] = refl
just_in_time-helds b c (x ∷ xs) =
    let e : due b c x xs - c ≡ x + carry b xs = omega (arith, due-carry b c x xs) in
    rw (e, just_in_time-helds b (c + x) xs)

pub profile-at : (b : ℕ) (xs : List ℕ) (t : ℕ) → t < length xs
    → get_or (profile b xs) t 0 ≡ get_or xs t 0 + carry b (drop (suc t) xs)
profile-at b [] t h = absurd (not-suc-le-zero h)
profile-at b (x ∷ xs) zero h = refl
profile-at b (x ∷ xs) (suc t) h = profile-at b xs t (le_of_suc-le-suc h)

-- what the just-in-time schedule holds in round t
pub held_at : (b : ℕ) (xs : List ℕ) (t : ℕ) → t < length xs
    → get_or (helds 0 xs (just_in_time b 0 xs)) t 0 ≡ get_or xs t 0 + carry b (drop (suc t) xs)
held_at b xs t h = rw (just_in_time-helds b 0 xs) (profile-at b xs t h)

pub length-just_in_time : (b c : ℕ) (xs : List ℕ) → length (just_in_time b c xs) ≡ length xs
length-just_in_time b c [] = refl
length-just_in_time b c (x ∷ xs) = ap suc (length-just_in_time b (c + x) xs)

-- a turn of a loop that goes backward
pub carry-drop : (b : ℕ) (xs : List ℕ) (t : ℕ) → t < length xs → carry b (drop t xs) ≡ (get_or xs t 0 + carry b (drop (suc t) xs)) - b
carry-drop b [] t h = absurd (not-suc-le-zero h)
carry-drop b (x ∷ xs) zero h = refl
carry-drop b (x ∷ xs) (suc t) h = carry-drop b xs t (le_of_suc-le-suc h)

-- a turn of a loop that goes backward, and what it finds of the peak
pub peak-drop : (b : ℕ) (xs : List ℕ) (t : ℕ) → t < length xs
    → largest (profile b (drop t xs)) ≡ max (get_or xs t 0 + carry b (drop (suc t) xs)) (largest (profile b (drop (suc t) xs)))
peak-drop b [] t h = absurd (not-suc-le-zero h)
peak-drop b (x ∷ xs) zero h = refl
peak-drop b (x ∷ xs) (suc t) h = peak-drop b xs t (le_of_suc-le-suc h)

pub prefetch : (b p : ℕ) (xs : List ℕ) → carry b (sends p xs) ≡ carry b xs - p * b
prefetch b zero xs = omega (arith, zero-mul b)
prefetch b (suc p) xs = omega (arith, prefetch b p xs, suc-mul p b)

pub carry-peak : (b : ℕ) (xs : List ℕ) → carry b xs ≤ largest (profile b xs)
carry-peak b [] = omega arith
carry-peak b (x ∷ xs) = omega arith

-- the pre-fetch does not change the peak
pub prefetch-peak : (b p : ℕ) (xs : List ℕ) → largest (profile b (sends p xs)) ≡ largest (profile b xs)
prefetch-peak b zero xs = refl
prefetch-peak b (suc p) xs = omega (arith, prefetch-peak b p xs, carry-peak b (sends p xs))

pub prefetch-largest : (p : ℕ) (xs : List ℕ) → largest (sends p xs) ≡ largest xs
prefetch-largest zero xs = refl
prefetch-largest (suc p) xs = omega (arith, prefetch-largest p xs)

pub carry-mono : (b b' : ℕ) (xs : List ℕ) → b ≤ b' → carry b' xs ≤ carry b xs
carry-mono b b' [] h = omega arith
carry-mono b b' (x ∷ xs) h = omega (arith, carry-mono b b' xs h)

pub profile-mono : (b b' : ℕ) (xs : List ℕ) → b ≤ b' → (t : ℕ) → get_or (profile b' xs) t 0 ≤ get_or (profile b xs) t 0
profile-mono b b' [] h t = omega arith
profile-mono b b' (x ∷ xs) h zero = omega (arith, carry-mono b b' xs h)
profile-mono b b' (x ∷ xs) h (suc t) = profile-mono b b' xs h t

pub peak-mono : (b b' : ℕ) (xs : List ℕ) → b ≤ b' → largest (profile b' xs) ≤ largest (profile b xs)
peak-mono b b' [] h = omega arith
peak-mono b b' (x ∷ xs) h = omega (arith, carry-mono b b' xs h, peak-mono b b' xs h)

-- where the reserve is at least every size, each round reads what it sends
pub large-carry : (b : ℕ) (xs : List ℕ) → largest xs ≤ b → carry b xs ≡ 0
large-carry b [] h = refl
large-carry b (x ∷ xs) h = omega (arith, large-carry b xs (omega arith))

pub large-profile : (b : ℕ) (xs : List ℕ) → largest xs ≤ b → profile b xs ≡ xs
large-profile b [] h = refl
large-profile b (x ∷ xs) h =
    let e : x + carry b xs ≡ x = omega (arith, large-carry b xs (omega arith)) in
    rw (e, large-profile b xs (omega arith))

pub get_or-largest : (xs : List ℕ) (t : ℕ) → get_or xs t 0 ≤ largest xs
get_or-largest [] t = omega arith
get_or-largest (x ∷ xs) zero = omega arith
get_or-largest (x ∷ xs) (suc t) = omega (arith, get_or-largest xs t)

-- at most m are sent in each round, so at most m are carried from each
pub carry-bound : (b m : ℕ) (xs : List ℕ) → largest xs ≤ m → carry b xs ≤ m * length xs
carry-bound b m [] h = omega arith
carry-bound b m (x ∷ xs) h = omega (arith, carry-bound b m xs (omega arith), mul-suc m (length xs))

-- no schedule holds less than the largest round sends
pub largest-peak : (b : ℕ) (xs : List ℕ) → largest xs ≤ largest (profile b xs)
largest-peak b [] = omega arith
largest-peak b (x ∷ xs) = omega (arith, largest-peak b xs)

-- at most m are sent in each round, so at most m for each round are held
pub profile-bound : (b m : ℕ) (xs : List ℕ) → largest xs ≤ m → largest (profile b xs) ≤ m * length xs
profile-bound b m [] h = omega arith
profile-bound b m (x ∷ xs) h =
    omega (arith, profile-bound b m xs (omega arith), carry-bound b m xs (omega arith), mul-suc m (length xs))

pub largest-drop : (xs : List ℕ) (t : ℕ) → t < length xs → largest (drop t xs) ≡ max (get_or xs t 0) (largest (drop (suc t) xs))
largest-drop [] t h = absurd (not-suc-le-zero h)
largest-drop (x ∷ xs) zero h = refl
largest-drop (x ∷ xs) (suc t) h = largest-drop xs t (le_of_suc-le-suc h)
