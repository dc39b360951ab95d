-- A film where it stands in the file: its sends, round by round. Assumes nothing.
use Rattle.std.specs.Prelude.{◌≡◌, refl, List, [], ◌∷◌, ℕ, zero, suc, ◌+◌, ◌-◌, ◌≤◌, ◌<◌, max, length, get_or, drop, ◌*◌}
use Rattle.std.proofs.Common.{ap, not-suc-le-zero, le_of_suc-le-suc, arith, drop_of_length-le}
use Rattle.limits.specs.Bounds.{max_size}
use Rattle.laws.specs.Sums.{largest}
use Rattle.films.specs.Sizes.{sizes, Stored, size}
use Rattle.films.proofs.SizeLaws.{length-sizes, get_or-sizes}
use Rattle.retrieval.specs.Schedule.{sends}
use Rattle.retrieval.specs.Carry.{carry, profile}
use Rattle.retrieval.proofs.CarryLaws.{carry-drop, profile-at, peak-drop, profile-bound, prefetch-peak, get_or-largest, largest-drop}
use Rattle.retrieval.specs.Stored.{max_held, sends_at}

-- ---- the sizes

largest-bound : (xs : List ℕ) (m : ℕ) → ((i : ℕ) → get_or xs i 0 ≤ m) → largest xs ≤ m
largest-bound [] m f = omega arith
largest-bound (x ∷ xs) m f = omega (arith, f 0, largest-bound xs m (λ i. f (suc i)))

pub largest-small : (s : List ℕ) (at n : ℕ) → Stored s at n → largest (sizes s at n) ≤ max_size
largest-small s at n w = largest-bound (sizes s at n) max_size w.small

pub drop-sizes : (s : List ℕ) (at n : ℕ) → drop n (sizes s at n) ≡ []
drop-sizes s at zero = refl
drop-sizes s at (suc n) = drop-sizes s (at + 4) n

-- ---- the sends by their place

pub length-sends : (p : ℕ) (xs : List ℕ) → length (sends p xs) ≡ p + length xs
length-sends zero xs = omega arith
length-sends (suc p) xs = omega (arith, length-sends p xs)

pub sends-before : (p : ℕ) (xs : List ℕ) (k : ℕ) → k < p → get_or (sends p xs) k 0 ≡ 0
sends-before zero xs k h = absurd (not-suc-le-zero h)
sends-before (suc p) xs zero h = refl
sends-before (suc p) xs (suc k) h = sends-before p xs k (le_of_suc-le-suc h)

pub sends-after : (p : ℕ) (xs : List ℕ) (k : ℕ) → p ≤ k → get_or (sends p xs) k 0 ≡ get_or xs (k - p) 0
sends-after zero xs k h = let e : k - 0 ≡ k = omega arith in rw e
sends-after (suc p) xs zero h = absurd (not-suc-le-zero h)
sends-after (suc p) xs (suc k) h = let e : suc k - suc p ≡ k - p = omega arith in rw e (sends-after p xs k (le_of_suc-le-suc h))

pub length-sends_at : (s : List ℕ) (at n p : ℕ) → length (sends_at s at n p) ≡ p + n
length-sends_at s at n p = omega (arith, length-sends p (sizes s at n), length-sizes s at n)

pub drop_all : (xs : List ℕ) (k b : ℕ) → length xs ≤ k → carry b (drop k xs) ≡ 0
drop_all xs k b h = rw (drop_of_length-le xs h)

-- ---- a turn of a loop that goes backward over rounds, from k to k - 1, where x is sent and c is carried

pub turn-held : (b k c x : ℕ) (xs : List ℕ) → 0 < k → k ≤ length xs → c ≡ carry b (drop k xs) → x ≡ get_or xs (k - 1) 0
    → x + c ≡ get_or (profile b xs) (k - 1) 0
turn-held b zero c x xs h l ec ex = absurd (not-suc-le-zero h)
turn-held b (suc k) c x xs h l ec ex =
    let e : suc k - 1 ≡ k = omega arith in
    let ex' : x ≡ get_or xs k 0 = rw e at ex in
    rw e (omega (arith, profile-at b xs k l))

pub turn-carry : (b k c x : ℕ) (xs : List ℕ) → 0 < k → k ≤ length xs → c ≡ carry b (drop k xs) → x ≡ get_or xs (k - 1) 0
    → (x + c) - b ≡ carry b (drop (k - 1) xs)
turn-carry b zero c x xs h l ec ex = absurd (not-suc-le-zero h)
turn-carry b (suc k) c x xs h l ec ex =
    let e : suc k - 1 ≡ k = omega arith in
    let ex' : x ≡ get_or xs k 0 = rw e at ex in
    rw e (omega (arith, carry-drop b xs k l))

pub turn-peak : (b k c x : ℕ) (xs : List ℕ) → 0 < k → k ≤ length xs → c ≡ carry b (drop k xs) → x ≡ get_or xs (k - 1) 0
    → max (largest (profile b (drop k xs))) (x + c) ≡ largest (profile b (drop (k - 1) xs))
turn-peak b zero c x xs h l ec ex = absurd (not-suc-le-zero h)
turn-peak b (suc k) c x xs h l ec ex =
    let e : suc k - 1 ≡ k = omega arith in
    let ex' : x ≡ get_or xs k 0 = rw e at ex in
    rw e (omega (arith, peak-drop b xs k l))

-- ---- what a film holds

pub length-profile : (b : ℕ) (xs : List ℕ) → length (profile b xs) ≡ length xs
length-profile b [] = refl
length-profile b (x ∷ xs) = ap suc (length-profile b xs)

pub profile-small : (s : List ℕ) (at n p b : ℕ) → Stored s at n → largest (profile b (sends_at s at n p)) ≤ max_held
profile-small s at n p b w =
    let xs = sizes s at n in
    omega (arith, w.few, prefetch-peak b p xs, profile-bound b max_size xs (largest-small s at n w), length-sizes s at n)

-- a film never holds more than max_held in a round
pub held-bound : (s : List ℕ) (at n p b t : ℕ) → Stored s at n → get_or (profile b (sends_at s at n p)) t 0 ≤ max_held
held-bound s at n p b t w =
    omega (arith, profile-small s at n p b w, get_or-largest (profile b (sends_at s at n p)) t)

pub size_small : (s : List ℕ) (at n i : ℕ) → Stored s at n → i < n → size s (at + 4 * i) ≤ max_size
size_small s at n i w h = omega (arith, w.small i, get_or-sizes s at n i h)

pub turn-largest : (k x : ℕ) (xs : List ℕ) → 0 < k → k ≤ length xs → x ≡ get_or xs (k - 1) 0
    → max (largest (drop k xs)) x ≡ largest (drop (k - 1) xs)
turn-largest zero x xs h l ex = absurd (not-suc-le-zero h)
turn-largest (suc k) x xs h l ex =
    let e : suc k - 1 ≡ k = omega arith in
    let ex' : x ≡ get_or xs k 0 = rw e at ex in
    rw e (omega (arith, largest-drop xs k l))
