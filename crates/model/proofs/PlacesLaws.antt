-- The lent places: a sheet that is worked out again, the record place after the last, and the place freed. Assumes nothing.
use Rattle.std.specs.Prelude.{◌≡◌, refl, true, List, ◌∷◌, ◌++◌, ℕ, zero, suc, ◌-◌, ◌≤◌, ◌<◌, max, length, get_or, drop, replicate, leb}
use Rattle.std.proofs.Common.{sym, ap, ◌∙◌, arith, length-append, drop_at, drop-cons, le-leb}
use Rattle.std.proofs.Math.Decide.{dec_le}
use Rattle.model.specs.Day.{State}
use Rattle.model.specs.Calls.{no_booking, per_round, worked_out}
use Rattle.model.specs.Expected.{other_places}
use Rattle.model.specs.declared.Booking.{Booking}

-- ---- the sheet

pub length-per_round : (f : ℕ → ℕ) (t n : ℕ) → length (per_round f t n) ≡ n
length-per_round f t zero = refl
length-per_round f t (suc n) = ap suc (length-per_round f (suc t) n)

-- what stood there before counts for nothing
pub worked_out-twice : (n : ℕ) (f g : ℕ → ℕ) (old : List ℕ) → worked_out n f (worked_out n g old) ≡ worked_out n f old
worked_out-twice n f g old = ap (λ (r : List ℕ). per_round f 0 n ++ r) (drop_at (per_round g 0 n) (drop n old) n (length-per_round g 0 n))

pub per_round-same : (f g : ℕ → ℕ) → ((t : ℕ) → f t ≡ g t) → (t n : ℕ) → per_round f t n ≡ per_round g t n
per_round-same f g e t zero = refl
per_round-same f g e t (suc n) = cc (e t, per_round-same f g e (suc t) n)

pub worked_out-long : (n : ℕ) (f : ℕ → ℕ) (old : List ℕ) → leb n (length (worked_out n f old)) ≡ true
worked_out-long n f old =
    le-leb n (length (worked_out n f old)) (omega (arith, length-append (per_round f 0 n) (drop n old), length-per_round f 0 n))

-- ---- the record places

-- the place after the last record
pub places-next : (c m : ℕ) (lent : List Booking) → c < length lent → c ≤ m
    → (y : Booking) × (other_places c m lent ≡ y ∷ other_places (suc c) (max m (suc c)) lent)
places-next c m lent u v = go (dec_le (suc c) m)
  where
    go : Dec (suc c ≤ m) → (y : Booking) × (other_places c m lent ≡ y ∷ other_places (suc c) (max m (suc c)) lent)
    go (yes k) =
        let e : m - c ≡ suc (m - suc c) = omega arith in
        let x : max m (suc c) ≡ m = omega arith in (
          no_booking,
          ap (λ (n : ℕ). replicate n no_booking ++ drop m lent) e
              ∙ ap (λ (n : ℕ). no_booking ∷ other_places (suc c) n lent) (sym x),
        )
    go (no k) =
        let e : m ≡ c = omega arith in
        let x : max m (suc c) ≡ suc c = omega arith in
        let z : c - c ≡ 0 = omega arith in
        let z' : suc c - suc c ≡ 0 = omega arith in (
          get_or lent c no_booking,
          ap (λ (n : ℕ). other_places c n lent) e
              ∙ ap (λ (n : ℕ). replicate n no_booking ++ drop c lent) z
              ∙ drop-cons lent c no_booking u
              ∙ ap (λ (n : ℕ). get_or lent c no_booking ∷ (replicate n no_booking ++ drop (suc c) lent)) (sym z')
              ∙ ap (λ (n : ℕ). get_or lent c no_booking ∷ other_places (suc c) n lent) (sym x),
        )

-- the place freed
pub places-freed : (c m : ℕ) (lent : List Booking) → suc c ≤ m → no_booking ∷ other_places (suc c) m lent ≡ other_places c m lent
places-freed c m lent u =
    let e : m - c ≡ suc (m - suc c) = omega arith in
    sym (ap (λ (n : ℕ). replicate n no_booking ++ drop m lent) e)

-- ---- two states are the same by their parts

pub same-state : {a b c d e f : ℕ} {rs rs' : List Booking} {o o' v v' k k' : List ℕ} → a ≡ b → c ≡ d → e ≡ f → rs ≡ rs'
    → o ≡ o' → v ≡ v' → k ≡ k'
    → ◌≡◌ {A = State} (record { now = a; count = c; places = e; records = rs; opens = o; reserves = v; helds = k })
    (record { now = b; count = d; places = f; records = rs'; opens = o'; reserves = v'; helds = k' })
same-state p q n r s t u = λ i. record { now = p i; count = q i; places = n i; records = r i; opens = s i; reserves = t i; helds = u i }
