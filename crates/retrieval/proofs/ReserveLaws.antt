-- Reserves that serve a film within a memory cap, and the least of them. Assumes nothing.
use Rattle.std.specs.Prelude.{◌≡◌, refl, ◌↔◌, Bool, true, false, cond, List, ℕ, zero, suc, ◌+◌, ◌*◌, ◌≤◌, ◌<◌, get_or, leb}
use Rattle.std.proofs.Common.{sym, ◌∙◌, true≢false, arith, leb-true, le-leb}
use Rattle.std.proofs.Math.Decide.{dec_le}
use Rattle.laws.specs.Tests.{left, right, join}
use Rattle.laws.specs.Sums.{largest}
use Rattle.retrieval.proofs.Tests.{same_test, test-false}
use Rattle.retrieval.specs.Schedule.{sends, Schedule, peak}
use Rattle.retrieval.specs.JustInTime.{just_in_time, exists_by}
use Rattle.retrieval.specs.LeastReserve.{Serves, Least, serves_by, first_from, least_reserve}
use Rattle.retrieval.specs.Carry.{carry, profile}
use Rattle.retrieval.proofs.CarryLaws.{just_in_time-helds, prefetch, prefetch-peak, prefetch-largest, carry-mono, peak-mono, large-carry, large-profile, largest-peak, get_or-largest}
use Rattle.retrieval.proofs.Minimality.{just_in_time-schedule, schedule-carry, reads-peak, exists_by-carry}

-- a schedule with a peak of at most cap exists exactly if the just-in-time one is such
pub serves-iff : (xs : List ℕ) (cap b : ℕ) → Serves xs cap b ↔ ((carry b xs ≡ 0) × (largest (profile b xs) ≤ cap))
serves-iff xs cap b = (
  λ v. (schedule-carry b xs v.0 v.1, omega (arith, v.2, reads-peak b 0 0 xs v.0 (omega arith) v.1)),
  λ v. (just_in_time b 0 xs, just_in_time-schedule b xs v.0, rw (just_in_time-helds b 0 xs) v.1),
)

pub schedule-mono : (b b' : ℕ) (xs rs : List ℕ) → b ≤ b' → Schedule xs b rs → Schedule xs b' (just_in_time b' 0 xs)
schedule-mono b b' xs rs h s = just_in_time-schedule b' xs (omega (arith, carry-mono b b' xs h, schedule-carry b xs rs s))

pub serves-mono : (xs : List ℕ) (cap b b' : ℕ) → b ≤ b' → Serves xs cap b → Serves xs cap b'
serves-mono xs cap b b' h v =
    let u = (serves-iff xs cap b).0 v in
    (serves-iff xs cap b').1 (omega (arith, u, carry-mono b b' xs h), omega (arith, u, peak-mono b b' xs h))

-- so if any reserve serves, one that is at least every size does
pub serves-large : (xs : List ℕ) (cap b m : ℕ) → largest xs ≤ m → Serves xs cap b → Serves xs cap m
serves-large xs cap b m h v =
    (serves-iff xs cap m).1
    (large-carry m xs h, rw (large-profile m xs h) (omega (arith, (serves-iff xs cap b).0 v, largest-peak b xs)))

pub film-serves : (xs : List ℕ) (p cap b : ℕ)
    → Serves (sends p xs) cap b ↔ ((carry b xs ≤ p * b) × (largest (profile b xs) ≤ cap))
film-serves xs p cap b =
    let i = serves-iff (sends p xs) cap b in
    let e = prefetch b p xs in
    let q = prefetch-peak b p xs in (
      λ v. let u = i.0 v in omega arith,
      λ v. i.1 (omega arith),
    )

-- if m does not serve, what serves is above m
pub serves-above : (xs : List ℕ) (cap m : ℕ) → (Serves xs cap m → ⊥) → (b : ℕ) → Serves xs cap b → m + 1 ≤ b
serves-above xs cap m f b v = pick (dec_le b m)
  where
    pick : Dec (b ≤ m) → m + 1 ≤ b
    pick (yes h) = absurd (f (serves-mono xs cap b m h v))
    pick (no h) = omega arith

-- ---- the least reserve

pub least-unique : (xs : List ℕ) (cap b b' : ℕ) → Least xs cap b → Least xs cap b' → b ≡ b'
least-unique xs cap b b' l m = omega (arith, l.least b' m.serves, m.least b l.serves)

-- whether a reserve serves is decided by the carry and the peak
pub serves-dec : (xs : List ℕ) (cap b : ℕ) → Dec (Serves xs cap b)
serves-dec xs cap b = pick (dec_le (carry b xs) 0) (dec_le (largest (profile b xs)) cap)
  where
    pick : Dec (carry b xs ≤ 0) → Dec (largest (profile b xs) ≤ cap) → Dec (Serves xs cap b)
    pick (yes h) (yes k) = yes ((serves-iff xs cap b).1 (omega arith, k))
    pick (yes h) (no k) = no (λ w. k ((serves-iff xs cap b).0 w).1)
    pick (no h) k = no (λ w. h (omega (arith, ((serves-iff xs cap b).0 w).0)))

-- where a reserve serves, some reserve is the least
pub least-below : (xs : List ℕ) (cap b : ℕ) → Serves xs cap b → (m : ℕ) × Least xs cap m
least-below xs cap zero v = (0, record { serves = v; least = λ b' w. omega arith })
least-below xs cap (suc b) v = pick (λ w. least-below xs cap b w) (serves-dec xs cap b)
  where
    pick : (Serves xs cap b → (m : ℕ) × Least xs cap m) → Dec (Serves xs cap b) → (m : ℕ) × Least xs cap m
    pick f (yes w) = f w
    pick f (no g) = (suc b, record { serves = v; least = λ b' w. omega (arith, serves-above xs cap b g b' w) })

-- a reserve of the largest size serves where the cap is as much
pub largest-serves : (p cap : ℕ) (xs : List ℕ) → largest xs ≤ cap → Serves (sends p xs) cap (largest xs)
largest-serves p cap xs h =
    let l = prefetch-largest p xs in
    (serves-iff (sends p xs) cap (largest xs)).1
    (large-carry (largest xs) (sends p xs) (omega arith), rw (large-profile (largest xs) (sends p xs) (omega arith)) (omega arith))

-- a film has a least reserve exactly if the cap is at least its largest size
pub least-exists : (p cap : ℕ) (xs : List ℕ) → ((b : ℕ) × Least (sends p xs) cap b) ↔ (largest xs ≤ cap)
least-exists p cap xs = (
  λ v. omega (arith, (serves-iff (sends p xs) cap v.0).0 v.1.serves, largest-peak v.0 (sends p xs), prefetch-largest p xs),
  λ h. least-below (sends p xs) cap (largest xs) (largest-serves p cap xs h),
)

-- and it is at most the largest size
pub least-bound : (p cap b : ℕ) (xs : List ℕ) → Least (sends p xs) cap b → b ≤ largest xs
least-bound p cap b xs l = l.least (largest xs) (largest-serves p cap xs ((least-exists p cap xs).0 (b, l)))

-- ---- the same as tests

pub serves_by-iff : (xs : List ℕ) (cap b : ℕ) → (serves_by xs cap b ≡ true) ↔ Serves xs cap b
serves_by-iff xs cap b = (
  λ e. (serves-iff xs cap b).1
      ((exists_by-carry b xs).0 (left (exists_by b xs) (leb (peak xs (just_in_time b 0 xs)) cap) e), rw (just_in_time-helds b 0 xs) at (leb-true (peak xs (just_in_time b 0 xs)) cap (right (exists_by b xs) e))),
  λ v. let u = (serves-iff xs cap b).0 v in
      join ((exists_by-carry b xs).1 u.0) (le-leb (peak xs (just_in_time b 0 xs)) cap (rw (just_in_time-helds b 0 xs) u.1)),
)

-- what an answer r of the test says
pub serves_by-yes : (r : Bool) (xs : List ℕ) (cap b : ℕ) → r ≡ serves_by xs cap b → r ≡ true → Serves xs cap b
serves_by-yes r xs cap b e t = (serves_by-iff xs cap b).0 (sym e ∙ t)

pub serves_by-no : (r : Bool) (xs : List ℕ) (cap b : ℕ) → r ≡ serves_by xs cap b → r ≡ false → Serves xs cap b → ⊥
serves_by-no r xs cap b e f v = true≢false (sym (e ∙ (serves_by-iff xs cap b).1 v) ∙ f)

-- as the code tests it: some round holds more than the cap,
pub serves_by-over : (p cap b t : ℕ) (xs : List ℕ) → cap < get_or (profile b xs) t 0 → serves_by (sends p xs) cap b ≡ false
serves_by-over p cap b t xs h =
    test-false (serves_by (sends p xs) cap b)
    (λ e. omega (arith, (film-serves xs p cap b).0 ((serves_by-iff (sends p xs) cap b).0 e), get_or-largest (profile b xs) t))

-- or none does, and c is the carry of the sizes
pub serves_by-test : (p cap b c : ℕ) (xs : List ℕ) → largest (profile b xs) ≤ cap → c ≡ carry b xs
    → leb c (p * b) ≡ serves_by (sends p xs) cap b
serves_by-test p cap b c xs h q =
    let i = serves_by-iff (sends p xs) cap b in
    let f = film-serves xs p cap b in
    same_test (leb c (p * b)) (serves_by (sends p xs) cap b) (λ e. i.1 (f.1 (omega (arith, leb-true c (p * b) e))))
    (λ e. le-leb c (p * b) (omega (arith, f.0 (i.0 e))))

-- ---- the least reserve as a number

-- where nothing below b serves and b + k does, the first is the least
first-least : (xs : List ℕ) (cap b k : ℕ) → ((b' : ℕ) → Serves xs cap b' → b ≤ b') → Serves xs cap (b + k)
    → Least xs cap (first_from (serves_by xs cap) b k)
first-least xs cap b zero f v = let e : b + 0 ≡ b = omega arith in record { serves = rw e at v; least = f }
first-least xs cap b (suc k) f v = pick (serves_by xs cap b) refl (λ g. first-least xs cap (suc b) k g (rw d at v))
  where
    d : b + suc k ≡ suc b + k
    d = omega arith

    pick : (t : Bool) → serves_by xs cap b ≡ t
        → (((b' : ℕ) → Serves xs cap b' → suc b ≤ b') → Least xs cap (first_from (serves_by xs cap) (suc b) k))
        → Least xs cap (cond t b (first_from (serves_by xs cap) (suc b) k))
    pick true e g = record { serves = (serves_by-iff xs cap b).0 e; least = f }
    pick false e g = g (λ b' w. omega (arith, serves-above xs cap b (serves_by-no false xs cap b (sym e) refl) b' w))

pub least_reserve-least : (p cap : ℕ) (sizes : List ℕ) → largest sizes ≤ cap → Least (sends p sizes) cap (least_reserve (sends p sizes) cap)
unfolding least_reserve
least_reserve-least p cap sizes h =
    let e : 0 + largest (sends p sizes) ≡ largest sizes = omega (arith, prefetch-largest p sizes) in
    first-least (sends p sizes) cap 0 (largest (sends p sizes)) (λ b' w. omega arith) (rw e (largest-serves p cap sizes h))
