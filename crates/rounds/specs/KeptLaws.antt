-- Rounds tested one by one and block by block, and cabs counted with the sums. Assumes nothing.
use Rattle.std.specs.Prelude.{◌≡◌, refl, Bool, cond, ◌&&◌, List, [], ◌∷◌, ℕ, zero, suc, ◌+◌, ◌-◌, ◌≤◌, ◌<◌, leb, ltb, eqb, length, get_or}
use Rattle.std.proofs.Math.Path.{sym, ap}
use Rattle.std.proofs.Common.{ap₂, ◌∙◌, true≢false, arith}
use Rattle.std.proofs.Math.Bool.{true, false, and-true, and_comm, and_assoc}
use Rattle.std.specs.Int.Bits.{bit_and, bit_or, and_zero_r, or_zero_r, or_add_and}
use Rattle.std.proofs.lemmas.Nat.{and_le_l, and_le_r}
use borrow.Author.Tests.{le-leb, le-ltb, lt-ltb, leb-true, leb-false, ltb-true, eqb-true, eqb-false, ne_eqb, lt-leb}
use Rattle.limits.specs.Bounds.{max_bookings}
use Rattle.laws.specs.Tests.{left, right, below}
use Rattle.loss.specs.Loss.{table, loss_at}
use Rattle.loss.proofs.LossLaws.{table-length}
use Rattle.load.specs.Stream.{end_of, open_in, shows_in, holds_in, open_count, reserved_in, held_in}
use Rattle.load.specs.StreamLaws.{open-within, open-place, cond-most}
use Rattle.load.specs.declared.stream.Stream.{Stream}
use Rattle.rounds.specs.Rows.{active}
use Rattle.rounds.specs.Sums.{head_from, open_head, busy_head, none, added, with_one, sums_from, sums_in}
use Rattle.rounds.specs.SumLaws.{sums-active, open-head, sums-films, sums-reserves, sums-held}
use Rattle.rounds.specs.Kept.{cabs_in, apart_in, kept_in, sums_kept, in_rounds, loss_in, Losses}
use Rattle.rounds.specs.declared.sums.Sums.{Sums}

-- ---- rounds tested in order

module _ (p : ℕ → Bool) where
  pub rounds-no : (t n : ℕ) → 0 < n → p t ≡ false → in_rounds t n p ≡ false
  rounds-no t zero h e = absurd (omega arith)
  rounds-no t (suc n) h e = rw e

  pub rounds-yes : (t n : ℕ) → 0 < n → p t ≡ true → in_rounds t n p ≡ in_rounds (t + 1) (n - 1) p
  rounds-yes t zero h e = absurd (omega arith)
  rounds-yes t (suc n) h e =
      let a : t + 1 ≡ suc t = omega arith in
      let b : suc n - 1 ≡ n = omega arith in
      rw (e, a, b)

  rounds-then : (t m n : ℕ) → in_rounds t (m + n) p ≡ in_rounds t m p && in_rounds (t + m) n p
  rounds-then t zero n =
      let a : 0 + n ≡ n = omega arith in
      let b : t + 0 ≡ t = omega arith in
      rw (a, b)
  rounds-then t (suc m) n =
      let a : suc m + n ≡ suc (m + n) = omega arith in
      let b : t + suc m ≡ suc t + m = omega arith in
      rw (a, b, rounds-then (suc t) m n) (sym (and_assoc (p t) (in_rounds (suc t) m p) (in_rounds (suc t + m) n p)))

  -- from the first round on
  pub rounds-below : (n : ℕ) → in_rounds 0 n p ≡ below n p
  rounds-below zero = refl
  rounds-below (suc n) =
      let a : suc n ≡ n + 1 = omega arith in
      let b : 0 + n ≡ n = omega arith in
      ap (λ (k : ℕ). in_rounds 0 k p) a ∙ rounds-then 0 n 1
      ∙ ap₂ (λ (u v : Bool). u && v) (rounds-below n) (ap (λ (k : ℕ). p k && true) b ∙ and-true (p n))
      ∙ and_comm (below n p) (p n)

  module _ (q : ℕ → Bool) where
    rounds-same : (t n : ℕ) → ((k : ℕ) → t ≤ k → k < t + n → q k ≡ p k) → in_rounds t n q ≡ in_rounds t n p
    rounds-same t zero e = refl
    rounds-same t (suc n) e =
        ap₂ (λ (u v : Bool). u && v) (e t (omega arith) (omega arith)) (rounds-same (suc t) n (λ k u v. e k (omega arith) (omega arith)))

    -- a block, tested otherwise, and the rounds after it
    pub rounds-block : (t n T : ℕ) (r : Bool) → t + n ≤ T → ((k : ℕ) → t ≤ k → k < t + n → q k ≡ p k) → r ≡ in_rounds t n q
        → in_rounds t (T - t) p ≡ r && in_rounds (t + n) (T - (t + n)) p
    rounds-block t n T r h same e =
        let a : T - t ≡ n + (T - (t + n)) = omega arith in
        rw (a, rounds-then t n (T - (t + n)), e, rounds-same t n same)

-- ---- cabs

-- an open booking's cabs
busy-open : (t : ℕ) (x : Stream) → open_in t x ≡ true → busy_head t (head_from x) ≡ cabs_in t x
unfolding busy_head shows_in
busy-open t x o = go (leb (x.start + x.prefetch) t) refl
  where
    go : (v : Bool) → leb (x.start + x.prefetch) t ≡ v → cond (ltb t (x.start + x.prefetch)) 0 x.cabs ≡ cond (v && ltb t (end_of x)) x.cabs 0
    go true e = rw (le-ltb t (x.start + x.prefetch) (leb-true (x.start + x.prefetch) t e), lt-ltb t (end_of x) (open-place t x o).1)
    go false e = rw (lt-ltb t (x.start + x.prefetch) (omega (arith, leb-false (x.start + x.prefetch) t e)))

-- one that is not open keeps none busy
cabs-none : (t : ℕ) (x : Stream) → open_in t x ≡ false → cabs_in t x ≡ 0
unfolding shows_in
cabs-none t x e = go (shows_in t x) refl
  where
    shown : shows_in t x ≡ true → open_in t x ≡ true
    shown s =
        let p = leb-true (x.start + x.prefetch) t (left (leb (x.start + x.prefetch) t) (ltb t (end_of x)) s) in
        let q = ltb-true t (end_of x) (right (leb (x.start + x.prefetch) t) s) in
        open-within t x (omega arith) q

    go : (v : Bool) → shows_in t x ≡ v → cond v x.cabs 0 ≡ 0
    go true s = absurd (true≢false (sym (shown s) ∙ e))
    go false s = refl

module _ (t : ℕ) (s : Sums) (x : Stream) (h : ℕ) where
  one-taken : (with_one t s (head_from x) h).taken ≡ bit_or s.taken (cabs_in t x)
  unfolding with_one
  one-taken = go (open_head t (head_from x)) (open-head t x)
    where
      go : (o : Bool) → o ≡ open_in t x → (cond o (added t s (head_from x) h) s).taken ≡ bit_or s.taken (cabs_in t x)
      go true o = ap (bit_or s.taken) (busy-open t x (sym o))
      go false o = sym (ap (bit_or s.taken) (cabs-none t x (sym o)) ∙ or_zero_r s.taken)

  one-twice : (with_one t s (head_from x) h).twice ≡ bit_or s.twice (bit_and s.taken (cabs_in t x))
  unfolding with_one
  one-twice = go (open_head t (head_from x)) (open-head t x)
    where
      go : (o : Bool) → o ≡ open_in t x → (cond o (added t s (head_from x) h) s).twice ≡ bit_or s.twice (bit_and s.taken (cabs_in t x))
      go true o = ap (λ (c : ℕ). bit_or s.twice (bit_and s.taken c)) (busy-open t x (sym o))
      go false o =
          sym (
          ap (λ (c : ℕ). bit_or s.twice (bit_and s.taken c)) (cabs-none t x (sym o))
          ∙ ap (bit_or s.twice) (and_zero_r s.taken)
          ∙ or_zero_r s.twice
          )

-- two numbers have no bit between them exactly if both are 0
or-none : (a b : ℕ) → eqb (bit_or a b) 0 ≡ eqb a 0 && eqb b 0
or-none a b = go (eqb a 0) (eqb b 0) refl refl
  where
    go : (u v : Bool) → eqb a 0 ≡ u → eqb b 0 ≡ v → eqb (bit_or a b) 0 ≡ u && v
    go true true p q = rw (eqb-true a 0 p, eqb-true b 0 q)
    go true false p q = ne_eqb (bit_or a b) 0 (λ z. eqb-false b 0 q (omega (arith, or_add_and a b, z, and_le_l a b)))
    go false v p q = ne_eqb (bit_or a b) 0 (λ z. eqb-false a 0 p (omega (arith, or_add_and a b, z, and_le_r a b)))

-- no cab was shown twice exactly if none is
sums_apart : (f : List ℕ) (t : ℕ) (s : Sums) (xs : List Stream) → eqb (sums_from f t s xs).twice 0 ≡ eqb s.twice 0 && apart_in t s.taken xs
sums_apart f t s [] = sym (and-true (eqb s.twice 0))
sums_apart f t s (x ∷ xs) =
    let h = holds_in f t x in
    sums_apart f t (with_one t s (head_from x) h) xs
    ∙ ap₂ (λ (n c : ℕ). eqb n 0 && apart_in t c xs) (one-twice t s x h) (one-taken t s x h)
    ∙ ap (λ (u : Bool). u && apart_in t (bit_or s.taken (cabs_in t x)) xs) (or-none s.twice (bit_and s.taken (cabs_in t x)))
    ∙ and_assoc (eqb s.twice 0) (eqb (bit_and s.taken (cabs_in t x)) 0) (apart_in t (bit_or s.taken (cabs_in t x)) xs)

-- ---- a round is kept by its sums exactly if it is by its bookings

open-few : (t : ℕ) (xs : List Stream) → open_count t xs ≤ length xs
open-few t [] = omega arith
open-few t (x ∷ xs) = omega (arith, open-few t xs, cond-most (open_in t x) 1 1 (omega arith))

pub kept-sums : (f losses : List ℕ) (D M : ℕ) (xs : List Stream) (t : ℕ) → Losses losses → length xs ≤ max_bookings
    → sums_kept (loss_in losses) D M (sums_in f t xs) ≡ kept_in f loss_at D M xs t
unfolding sums_kept kept_in
kept-sums f losses D M xs t l few =
    let a : (sums_in f t xs).films ≡ open_count t xs = sums-films f t none xs ∙ omega arith in
    let b : (sums_in f t xs).reserves ≡ reserved_in t xs = sums-reserves f t none xs ∙ omega arith in
    let c : (sums_in f t xs).held ≡ held_in f t xs = sums-held f t none xs ∙ omega arith in
    rw (a, b, c, sums_apart f t none xs, l.loss (open_count t xs) (omega (arith, open-few t xs)))

-- ---- a block of a day's rounds, by the sums of the bookings open in it

pub kept-block : (f losses : List ℕ) (D M : ℕ) (xs : List Stream) (t n T : ℕ) (r : Bool) → Losses losses → length xs ≤ max_bookings → t + n ≤ T
    → in_rounds 0 T (kept_in f loss_at D M xs) ≡ in_rounds t (T - t) (kept_in f loss_at D M xs)
    → r ≡ in_rounds t n (λ k. sums_kept (loss_in losses) D M (sums_in f k (active t (t + n) xs)))
    → in_rounds 0 T (kept_in f loss_at D M xs) ≡ r && in_rounds (t + n) (T - (t + n)) (kept_in f loss_at D M xs)
kept-block f losses D M xs t n T r l few within before told =
    let q : ℕ → Bool = λ k. sums_kept (loss_in losses) D M (sums_in f k (active t (t + n) xs)) in
    before
    ∙ rounds-block (kept_in f loss_at D M xs) q t n T r within
    (λ k u v. ap (sums_kept (loss_in losses) D M) (sums-active f k t (t + n) u v none xs) ∙ kept-sums f losses D M xs k l few) told

-- ---- the tests of one round

module _ (loss : ℕ → ℕ) (D M : ℕ) (s : Sums) where
  pub disk-broken : D < s.reserves + loss s.films → false ≡ sums_kept loss D M s
  unfolding sums_kept
  disk-broken h = rw (lt-leb (s.reserves + loss s.films) D h)

  module _ (disk : s.reserves + loss s.films ≤ D) where
    pub memory-broken : M < s.held → false ≡ sums_kept loss D M s
    unfolding sums_kept
    memory-broken h = rw (le-leb (s.reserves + loss s.films) D disk, lt-leb s.held M h)

    pub cabs-decide : s.held ≤ M → eqb s.twice 0 ≡ sums_kept loss D M s
    unfolding sums_kept
    cabs-decide h = rw (le-leb (s.reserves + loss s.films) D disk, le-leb s.held M h)

-- ---- the disk-loss table

pub table-losses : (l : List ℕ) → l ≡ table → Losses l
table-losses l e = record { size = omega (arith, ap length e, table-length); loss = λ k h. ap (λ (m : List ℕ). get_or m k 0) e }
