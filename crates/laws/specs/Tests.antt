-- Tests joined by `&&`, tests of every number below a bound, and tests of every element of a list. Assumes nothing.
use Rattle.std.specs.Prelude.{◌≡◌, refl, Bool, true, false, ◌&&◌, List, [], ◌∷◌, ◌++◌, ℕ, zero, suc, ◌<◌, length, get_or}
use Rattle.std.specs.List.{list_all}
use Rattle.std.proofs.Common.{sym, ⊎_elim, true≢false, arith, not-suc-le-zero, le_of_suc-le-suc, eq-or-lt_of_le}

pub left : (a b : Bool) → a && b ≡ true → a ≡ true
left true b e = refl
left false b e = e

pub right : (a : Bool) {b : Bool} → a && b ≡ true → b ≡ true
right true e = e
right false e = absurd (true≢false (sym e))

pub join : {a b : Bool} → a ≡ true → b ≡ true → a && b ≡ true
join e f = rw (e, f)

-- the test passes at every number below n
abbrev pub below : ℕ → (ℕ → Bool) → Bool
below zero f = true
below (suc n) f = f n && below n f

pub below_at : (n : ℕ) (f : ℕ → Bool) → below n f ≡ true → (t : ℕ) → t < n → f t ≡ true
below_at zero f e t h = absurd (not-suc-le-zero h)
below_at (suc n) f e t h =
    ⊎_elim (λ q. rw q (left (f n) (below n f) e)) (λ q. below_at n f (right (f n) e) t q)
    (eq-or-lt_of_le (le_of_suc-le-suc h))

pub below_all : (n : ℕ) (f : ℕ → Bool) → ((t : ℕ) → t < n → f t ≡ true) → below n f ≡ true
below_all zero f g = refl
below_all (suc n) f g = join (g n (omega arith)) (below_all n f (λ t h. g t (omega arith)))

-- the test passes at every element
abbrev pub all : {A : Type 0} → (A → Bool) → List A → Bool
all f l = list_all f l

pub all-at : {A : Type 0} (f : A → Bool) (l : List A) (d : A) → all f l ≡ true → (i : ℕ) → i < length l → f (get_or l i d) ≡ true
all-at f [] d e i h = absurd (not-suc-le-zero h)
all-at f (a ∷ l) d e zero h = left (f a) (all f l) e
all-at f (a ∷ l) d e (suc i) h = all-at f l d (right (f a) e) i (le_of_suc-le-suc h)

pub all-each : {A : Type 0} (f : A → Bool) (l : List A) (d : A) → ((i : ℕ) → i < length l → f (get_or l i d) ≡ true) → all f l ≡ true
all-each f [] d g = refl
all-each f (a ∷ l) d g = join (g 0 (omega arith)) (all-each f l d (λ i h. g (suc i) (omega arith)))

pub all_append : {A : Type 0} (f : A → Bool) (l m : List A) → all f l ≡ true → all f m ≡ true → all f (l ++ m) ≡ true
all_append f [] m e g = g
all_append f (a ∷ l) m e g = join (left (f a) (all f l) e) (all_append f l m (right (f a) e) g)
