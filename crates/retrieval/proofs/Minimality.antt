-- The just-in-time list is a schedule wherever there is one, and no schedule has less in any round. Assumes nothing.
use Rattle.std.specs.Prelude.{◌≡◌, refl, ◌↔◌, true, List, [], ◌∷◌, ℕ, zero, suc, ◌+◌, ◌-◌, ◌*◌, ◌≤◌, ◌<◌, max, length, get_or, eqb}
use Rattle.std.proofs.Common.{sym, ap, ◌∙◌, suc-le-suc, zero-lt-suc, not-suc-le-zero, le_of_suc-le-suc, suc-mul, suc-ne-zero, arith, leb-true, le-leb, eqb-true, eq-eqb}
use Rattle.std.proofs.Math.Nat.{suc_inj}
use Rattle.laws.specs.Sums.{largest}
use Rattle.retrieval.proofs.Tests.{same_test}
use Rattle.retrieval.specs.Schedule.{totals, Reads, Schedule, helds}
use Rattle.retrieval.specs.JustInTime.{due, just_in_time, exists_by}
use Rattle.retrieval.specs.Carry.{carry, profile}
use Rattle.retrieval.proofs.CarryLaws.{due-carry}

-- one more round in front
cons : (b a c x r : ℕ) (xs rs : List ℕ) → a ≤ r → r ≤ a + b → c + x ≤ r → Reads b r (c + x) xs rs → Reads b a c (x ∷ xs) (r ∷ rs)
cons b a c x r xs rs up pace feed s =
    record {
      rounds = ap suc s.rounds;
      rises = elim [ zero ↦ λ h. up | suc t ↦ λ h. s.rises t (le_of_suc-le-suc h) ];
      paced = elim [ zero ↦ λ h. pace | suc t ↦ λ h. s.paced t (le_of_suc-le-suc h) ];
      fed = elim [ zero ↦ λ h. feed | suc t ↦ λ h. s.fed t (le_of_suc-le-suc h) ];
      ends = omega (arith, s.ends);
    }

-- from where the round before left it: what was sent, and the carry
pub just_in_time-reads : (b c : ℕ) (xs : List ℕ) → Reads b (c + carry b xs) c xs (just_in_time b c xs)
just_in_time-reads b c [] =
    record {
      rounds = refl;
      rises = λ t h. absurd (not-suc-le-zero h);
      paced = λ t h. absurd (not-suc-le-zero h);
      fed = λ t h. absurd (not-suc-le-zero h);
      ends = refl;
    }
just_in_time-reads b c (x ∷ xs) =
    let e : due b c x xs ≡ (c + x) + carry b xs = omega (arith, due-carry b c x xs) in
    rw e (cons b (c + carry b (x ∷ xs)) c x ((c + x) + carry b xs) xs (just_in_time b (c + x) xs) (omega arith) (omega arith) (omega arith) (just_in_time-reads b (c + x) xs))

-- a schedule exists exactly if nothing is carried to before the first round
pub just_in_time-schedule : (b : ℕ) (xs : List ℕ) → carry b xs ≡ 0 → Schedule xs b (just_in_time b 0 xs)
just_in_time-schedule b xs e =
    let z : 0 + carry b xs ≡ 0 = omega arith in
    rw z at (just_in_time-reads b 0 xs)

-- what is left of a schedule after its first round
rest : (b a c x r : ℕ) (xs rs : List ℕ) → Reads b a c (x ∷ xs) (r ∷ rs) → Reads b r (c + x) xs rs
rest b a c x r xs rs s =
    record {
      rounds = suc_inj s.rounds;
      rises = λ t h. s.rises (suc t) (suc-le-suc h);
      paced = λ t h. s.paced (suc t) (suc-le-suc h);
      fed = λ t h. s.fed (suc t) (suc-le-suc h);
      ends = omega (arith, s.ends);
    }

-- whatever the schedule, the carry was read before
pub reads-carry : (b a c : ℕ) (xs rs : List ℕ) → c ≤ a → Reads b a c xs rs → c + carry b xs ≤ a
reads-carry b a c [] [] h s = omega arith
reads-carry b a c [] (r ∷ rs) h s = absurd (suc-ne-zero (length rs) s.rounds)
reads-carry b a c (x ∷ xs) [] h s = absurd (suc-ne-zero (length xs) (sym s.rounds))
reads-carry b a c (x ∷ xs) (r ∷ rs) h s =
    let z : 0 < length (r ∷ rs) = zero-lt-suc (length rs) in
    let feed : c + x ≤ r = s.fed 0 z in
    let ih = reads-carry b r (c + x) xs rs feed (rest b a c x r xs rs s) in
    omega (arith, s.paced 0 z)

pub schedule-carry : (b : ℕ) (xs rs : List ℕ) → Schedule xs b rs → carry b xs ≡ 0
schedule-carry b xs rs s = omega (arith, reads-carry b 0 0 xs rs (omega arith) s)

-- its total is at least the just-in-time total, in every round
pub reads-least : (b a c : ℕ) (xs rs : List ℕ) → c ≤ a → Reads b a c xs rs
    → (t : ℕ) → t < length xs → get_or (just_in_time b c xs) t 0 ≤ get_or rs t 0
reads-least b a c [] rs h s t l = absurd (not-suc-le-zero l)
reads-least b a c (x ∷ xs) [] h s t l = absurd (suc-ne-zero (length xs) (sym s.rounds))
reads-least b a c (x ∷ xs) (r ∷ rs) h s zero l =
    let feed : c + x ≤ r = s.fed 0 (zero-lt-suc (length rs)) in
    omega (arith, due-carry b c x xs, reads-carry b r (c + x) xs rs feed (rest b a c x r xs rs s))
reads-least b a c (x ∷ xs) (r ∷ rs) h s (suc t) l =
    reads-least b r (c + x) xs rs (s.fed 0 (zero-lt-suc (length rs))) (rest b a c x r xs rs s) t (le_of_suc-le-suc l)

-- and it holds at least what the just-in-time schedule holds, in every round
pub reads-helds : (b a c : ℕ) (xs rs : List ℕ) → c ≤ a → Reads b a c xs rs
    → (t : ℕ) → t < length xs → get_or (profile b xs) t 0 ≤ get_or (helds c xs rs) t 0
reads-helds b a c [] rs h s t l = absurd (not-suc-le-zero l)
reads-helds b a c (x ∷ xs) [] h s t l = absurd (suc-ne-zero (length xs) (sym s.rounds))
reads-helds b a c (x ∷ xs) (r ∷ rs) h s zero l =
    let feed : c + x ≤ r = s.fed 0 (zero-lt-suc (length rs)) in
    omega (arith, reads-carry b r (c + x) xs rs feed (rest b a c x r xs rs s))
reads-helds b a c (x ∷ xs) (r ∷ rs) h s (suc t) l =
    reads-helds b r (c + x) xs rs (s.fed 0 (zero-lt-suc (length rs))) (rest b a c x r xs rs s) t (le_of_suc-le-suc l)

-- so its peak is at least the just-in-time peak
pub reads-peak : (b a c : ℕ) (xs rs : List ℕ) → c ≤ a → Reads b a c xs rs → largest (profile b xs) ≤ largest (helds c xs rs)
reads-peak b a c [] rs h s = omega arith
reads-peak b a c (x ∷ xs) [] h s = absurd (suc-ne-zero (length xs) (sym s.rounds))
reads-peak b a c (x ∷ xs) (r ∷ rs) h s =
    let feed : c + x ≤ r = s.fed 0 (zero-lt-suc (length rs)) in
    let s' = rest b a c x r xs rs s in
    omega (arith, reads-carry b r (c + x) xs rs feed s', reads-peak b r (c + x) xs rs feed s')

-- held in round t: what is read up to and in it, less what was sent before it
pub helds-at : (c : ℕ) (xs rs : List ℕ) (t : ℕ) → length rs ≡ length xs → t < length xs
    → get_or (helds c xs rs) t 0 ≡ get_or rs t 0 - get_or (c ∷ totals c xs) t 0
helds-at c [] rs t e h = absurd (not-suc-le-zero h)
helds-at c (x ∷ xs) [] t e h = absurd (suc-ne-zero (length xs) (sym e))
helds-at c (x ∷ xs) (r ∷ rs) zero e h = refl
helds-at c (x ∷ xs) (r ∷ rs) (suc t) e h = helds-at (c + x) xs rs t (suc_inj e) (le_of_suc-le-suc h)

-- exactly if the just-in-time total of the first round is at most b
pub exists-first : (b x : ℕ) (xs : List ℕ) → (due b 0 x xs ≤ b) ↔ (carry b (x ∷ xs) ≡ 0)
exists-first b x xs = (λ h. omega (arith, due-carry b 0 x xs), λ h. omega (arith, due-carry b 0 x xs))

pub exists_iff : (b : ℕ) (xs : List ℕ) → ((rs : List ℕ) × Schedule xs b rs) ↔ (carry b xs ≡ 0)
exists_iff b xs = (λ v. schedule-carry b xs v.0 v.1, λ e. (just_in_time b 0 xs, just_in_time-schedule b xs e))

pub exists-first-iff : (b x : ℕ) (xs : List ℕ) → ((rs : List ℕ) × Schedule (x ∷ xs) b rs) ↔ (due b 0 x xs ≤ b)
exists-first-iff b x xs = (
  λ v. (exists-first b x xs).1 ((exists_iff b (x ∷ xs)).0 v),
  λ h. (exists_iff b (x ∷ xs)).1 ((exists-first b x xs).0 h),
)

pub just_in_time-last : (b c x : ℕ) (xs : List ℕ) → get_or (just_in_time b c (x ∷ xs)) (length xs) 0 ≡ get_or (totals c (x ∷ xs)) (length xs) 0
just_in_time-last b c x [] = refl
just_in_time-last b c x (y ∷ ys) = just_in_time-last b (c + x) y ys

pub just_in_time-before : (b c : ℕ) (xs : List ℕ) (t : ℕ) → suc t < length xs
    → get_or (just_in_time b c xs) t 0 ≡ max (get_or (totals c xs) t 0) (get_or (just_in_time b c xs) (suc t) 0 - b)
just_in_time-before b c [] t h = absurd (not-suc-le-zero h)
just_in_time-before b c (x ∷ []) t h = absurd (not-suc-le-zero (le_of_suc-le-suc h))
just_in_time-before b c (x ∷ y ∷ ys) zero h = refl
just_in_time-before b c (x ∷ y ∷ ys) (suc t) h = just_in_time-before b (c + x) (y ∷ ys) t (le_of_suc-le-suc h)

-- ---- the tests of existence

pub exists_by-carry : (b : ℕ) (xs : List ℕ) → (exists_by b xs ≡ true) ↔ (carry b xs ≡ 0)
exists_by-carry b [] = (λ e. refl, λ e. le-leb 0 b (omega arith))
exists_by-carry b (x ∷ xs) = (
  λ e. (exists-first b x xs).0 (leb-true (due b 0 x xs) b e),
  λ e. le-leb (due b 0 x xs) b ((exists-first b x xs).1 e),
)

pub exists_by-iff : (b : ℕ) (xs : List ℕ) → (exists_by b xs ≡ true) ↔ ((rs : List ℕ) × Schedule xs b rs)
exists_by-iff b xs = (λ e. (exists_iff b xs).1 ((exists_by-carry b xs).0 e), λ v. (exists_by-carry b xs).1 ((exists_iff b xs).0 v))

-- as the code tests it, where k is the carry
pub exists_by-test : (b k : ℕ) (xs : List ℕ) → k ≡ carry b xs → eqb k 0 ≡ exists_by b xs
exists_by-test b k xs q =
    same_test (eqb k 0) (exists_by b xs) (λ e. (exists_by-carry b xs).1 (sym q ∙ eqb-true k 0 e))
    (λ e. eq-eqb k 0 (q ∙ (exists_by-carry b xs).0 e))

-- the carry is at most k exactly if b for each round and k ahead of them are enough up to every round
pub carry-paced : (b k c : ℕ) (xs : List ℕ) → carry b xs ≤ k
    → (t : ℕ) → t < length xs → get_or (totals c xs) t 0 ≤ (c + k) + suc t * b
carry-paced b k c [] h t l = absurd (not-suc-le-zero l)
carry-paced b k c (x ∷ xs) h zero l = omega (arith, suc-mul 0 b)
carry-paced b k c (x ∷ xs) h (suc t) l =
    omega (arith, carry-paced b ((k + b) - x) (c + x) xs (omega arith) t (le_of_suc-le-suc l), suc-mul (suc t) b)

pub paced-carry : (b k c : ℕ) (xs : List ℕ) → ((t : ℕ) → t < length xs → get_or (totals c xs) t 0 ≤ (c + k) + suc t * b)
    → carry b xs ≤ k
paced-carry b k c [] f = omega arith
paced-carry b k c (x ∷ xs) f =
    let first : c + x ≤ (c + k) + suc 0 * b = f 0 (zero-lt-suc (length xs)) in
    let one = suc-mul 0 b in
    let rest = paced-carry b ((k + b) - x) (c + x) xs (λ t l. omega (arith, f (suc t) (suc-le-suc l), suc-mul (suc t) b)) in
    omega arith

-- exactly if C(t) ≤ (t+1) * b in every round
pub exists-paced : (b : ℕ) (xs : List ℕ)
    → ((rs : List ℕ) × Schedule xs b rs) ↔ ((t : ℕ) → t < length xs → get_or (totals 0 xs) t 0 ≤ suc t * b)
exists-paced b xs = (
  λ v t l. omega (arith, carry-paced b 0 0 xs (omega (arith, (exists_iff b xs).0 v)) t l),
  λ f. (exists_iff b xs).1 (omega (arith, paced-carry b 0 0 xs (λ t l. omega (arith, f t l)))),
)
