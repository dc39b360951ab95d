-- What rules a start out, and what makes it fit. Assumes nothing.
use Rattle.std.specs.Prelude.{◌≡◌, refl, Some, None, find, Bool, true, false, cond, not, ◌&&◌, List, [], ◌∷◌, ℕ, suc, ◌+◌, ◌-◌, ◌≤◌, ◌<◌, min, max, eqb, length, get_or, take}
use Rattle.std.proofs.Common.{sym, ◌∙◌, true≢false, arith, ltb-true, lt-ltb, length-take-le, get_or-take}
use Rattle.std.specs.Int.Bits.{bit_and}
use Rattle.std.proofs.lemmas.Bool.{not-true}
use Rattle.laws.specs.Tests.{left, right, join, below, below_at, below_all}
use Rattle.load.specs.Stream.{length_of, end_of, clashes, no_stream}
use Rattle.load.specs.declared.stream.Stream.{Stream}
use Rattle.search.specs.Fit.{Query, start_at, disk_free, memory_free, cabs_fit, cabs_free, fits_at, HeldRows, DiskRows, EndInDay}
use Rattle.search.specs.Search.{NoneFits}
use Rattle.std.proofs.Math.Decide.{dec_le}
use Rattle.limits.specs.Bounds.{max_day}

-- ---- a start, by its three tests

pub fits-disk : (q : Query) (s : ℕ) → fits_at q s ≡ true → (t : ℕ) → s ≤ t → t < s + length_of q.stream → disk_free q t ≡ true
unfolding fits_at
fits-disk q s e t h k =
    let n = length_of q.stream in
    let d : below n (λ j. disk_free q (s + j)) ≡ true = left _ _ e in
    let place : s + (t - s) ≡ t = omega arith in
    rw place at (below_at n (λ j. disk_free q (s + j)) d (t - s) (omega arith))

pub fits-memory : (q : Query) (s : ℕ) → fits_at q s ≡ true → (j : ℕ) → j < length_of q.stream → memory_free q s j ≡ true
unfolding fits_at
fits-memory q s e j h =
    let n = length_of q.stream in
    below_at n (λ i. memory_free q s i) (left _ _ (right (below n (λ i. disk_free q (s + i))) e)) j h

pub fits-cabs : (q : Query) (s : ℕ) → fits_at q s ≡ true → cabs_free q s ≡ true
unfolding fits_at
fits-cabs q s e =
    let n = length_of q.stream in
    right (below n (λ i. memory_free q s i)) (right (below n (λ i. disk_free q (s + i))) e)

pub fits_all : (q : Query) (s : ℕ) → ((t : ℕ) → s ≤ t → t < s + length_of q.stream → disk_free q t ≡ true)
    → ((j : ℕ) → j < length_of q.stream → memory_free q s j ≡ true) → cabs_free q s ≡ true → fits_at q s ≡ true
unfolding fits_at
fits_all q s d m c =
    let n = length_of q.stream in
    join (below_all n (λ j. disk_free q (s + j)) (λ j h. d (s + j) (omega arith) (omega arith)))
    (join (below_all n (λ j. memory_free q s j) m) c)

-- ---- what rules starts out

-- a round that the disk cannot take rules out every start that covers it
pub disk-rules-out : (q : Query) (s t : ℕ) → disk_free q t ≡ false → t < s + length_of q.stream → NoneFits q s (suc t)
disk-rules-out q s t b h u l k e = absurd (true≢false (sym (fits-disk q u e t (omega arith) (omega arith)) ∙ b))

-- a round over the memory limit rules out its start
pub memory-rules-out : (q : Query) (s j : ℕ) → memory_free q s j ≡ false → j < length_of q.stream → NoneFits q s (suc s)
memory-rules-out q s j b h u l k e =
    let same : u ≡ s = omega arith in
    absurd (true≢false (sym (fits-memory q s (rw same at e) j h) ∙ b))

module _ (x y : Stream) (s : ℕ) (e : clashes x (start_at s y) ≡ true) where
  abbrev common : Bool
  common = not (eqb (bit_and x.cabs y.cabs) 0)

  meets : max (x.start + x.prefetch) (s + y.prefetch) < min (end_of x) (s + y.prefetch + y.rounds)
  unfolding clashes
  meets = ltb-true _ _ (right common e)

  -- the start that a clash leaves comes later
  pub clash-later : s < end_of x - y.prefetch
  clash-later = omega (arith, meets)

  -- and the two clash at each start before it
  clash-until : (u : ℕ) → s ≤ u → u < end_of x - y.prefetch → clashes x (start_at u y) ≡ true
  unfolding clashes
  clash-until u h k = join (left common _ e) (lt-ltb _ _ (omega (arith, meets)))

-- where no stream of the list clashes, the cabs are free
pub clashes-none : (xs : List Stream) (y : Stream) (s : ℕ) → find (λ x. clashes x (start_at s y)) xs ≡ None → cabs_fit xs y s ≡ true
clashes-none [] y s e = refl
clashes-none (x ∷ xs) y s e = go (clashes x (start_at s y)) e (clashes-none xs y s)
  where
    go : (b : Bool) → cond b (Some x) (find (λ x. clashes x (start_at s y)) xs) ≡ None
        → (find (λ x. clashes x (start_at s y)) xs ≡ None → cabs_fit xs y s ≡ true) → not b && cabs_fit xs y s ≡ true
    go true e i = absurd cc
    go false e i = i e

-- the stream that is found clashes
pub clashes-found : (xs : List Stream) (x y : Stream) (s : ℕ) → find (λ x. clashes x (start_at s y)) xs ≡ Some x → clashes x (start_at s y) ≡ true
clashes-found [] x y s e = absurd cc
clashes-found (z ∷ zs) x y s e = go (clashes z (start_at s y)) refl e (clashes-found zs x y s)
  where
    go : (b : Bool) → clashes z (start_at s y) ≡ b → cond b (Some z) (find (λ x. clashes x (start_at s y)) zs) ≡ Some x
        → (find (λ x. clashes x (start_at s y)) zs ≡ Some x → clashes x (start_at s y) ≡ true) → clashes x (start_at s y) ≡ true
    go true c e i = let same : z ≡ x = cc in rw same at c
    go false c e i = i e

-- and at each start before the one that a clash leaves the same stream clashes
pub clashes-some : (xs : List Stream) (x y : Stream) (s u : ℕ) → find (λ x. clashes x (start_at s y)) xs ≡ Some x → s ≤ u
    → u < end_of x - y.prefetch → cabs_fit xs y u ≡ true → ⊥
clashes-some [] x y s u e h k f = absurd cc
clashes-some (z ∷ zs) x y s u e h k f =
    go (clashes z (start_at s y)) refl e (λ e. clashes-some zs x y s u e h k (right (not (clashes z (start_at u y))) f))
  where
    go : (b : Bool) → clashes z (start_at s y) ≡ b → cond b (Some z) (find (λ x. clashes x (start_at s y)) zs) ≡ Some x
        → (find (λ x. clashes x (start_at s y)) zs ≡ Some x → ⊥) → ⊥
    go true c e i =
        let same : z ≡ x = cc in
        let l : u < end_of z - y.prefetch = rw same k in
        true≢false (sym (clash-until z y s c u h l) ∙ not-true _ (left _ _ f))
    go false c e i = i e

-- ---- fewer rounds of a list

pub fewer-held : {helds : List ℕ} {e : ℕ} (d : ℕ) → d ≤ e → HeldRows helds e → HeldRows helds d
fewer-held d h r = record { long = omega (arith, r.long); small = λ t k. r.small t (omega arith) }

pub fewer-disk : {opens reserves : List ℕ} {e : ℕ} (d : ℕ) → d ≤ e → DiskRows opens reserves e → DiskRows opens reserves d
fewer-disk d h r =
    record {
      opens-long = omega (arith, r.opens-long);
      reserves-long = omega (arith, r.reserves-long);
      opens_small = λ t k. r.opens_small t (omega arith);
      reserves-small = λ t k. r.reserves-small t (omega arith);
    }

pub pass-more : (f : ℕ → Bool) (r e : ℕ) → ((t : ℕ) → r ≤ t → t < e → f t ≡ true) → f (r - 1) ≡ true
    → (t : ℕ) → r - 1 ≤ t → t < e → f t ≡ true
pass-more f r e g h t k l = go (dec_le r t)
  where
    go : Dec (r ≤ t) → f t ≡ true
    go (yes m) = g t m l
    go (no m) = let same : r - 1 ≡ t = omega arith in rw same at h

pub ends_at : (xs : List Stream) (n i : ℕ) → EndInDay (take n xs) → i < n → n ≤ length xs → end_of (get_or xs i no_stream) ≤ max_day
ends_at xs n i e h k =
    let l : i < length (take n xs) = omega (arith, length-take-le n xs k) in
    rw (get_or-take n xs i no_stream h) at (e i l)
