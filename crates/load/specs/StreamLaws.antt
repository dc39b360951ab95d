-- Laws of a stream's rounds. Assumes nothing.
use Rattle.std.specs.Prelude.{◌≡◌, Bool, true, false, cond, leb, ltb, refl, not, List, length, get_or}
use Rattle.std.proofs.Common.{◌∙◌, arith, sym, add-one}
use Prim.Native.Nat.{ℕ, ◌≤◌, ◌<◌, ◌+◌, ◌-◌, min, max}
use borrow.Author.Tests.{lt-ltb, le-ltb, le-leb, lt-leb, ltb-true, leb-true, leb-false, eq-eqb, ne_eqb}
use Rattle.laws.specs.Tests.{left, right, all}
use Rattle.load.specs.Stream.{end_of, open_in, total, clashes, pairs_clear}
use Rattle.load.specs.declared.stream.Stream.{Stream}
use Rattle.std.proofs.Math.Seq.{slice, slice-cons, slice_empty}
use Rattle.std.specs.Int.Bits.{bit_and}
use Rattle.load.specs.Lists.{ltb-same}

-- ---- open

pub open-early : (t : ℕ) (x : Stream) → t < x.start → open_in t x ≡ false
unfolding open_in
open-early t x h = rw (lt-leb x.start t h)

pub open-from : (t : ℕ) (x : Stream) → x.start ≤ t → open_in t x ≡ ltb t (end_of x)
unfolding open_in
open-from t x h = rw (le-leb x.start t h)

pub open-within : (t : ℕ) (x : Stream) → x.start ≤ t → t < end_of x → open_in t x ≡ true
open-within t x h k = open-from t x h ∙ lt-ltb t (end_of x) k

pub open-late : (t : ℕ) (x : Stream) → end_of x ≤ t → open_in t x ≡ false
open-late t x h = open-from t x (omega arith) ∙ le-ltb t (end_of x) h

pub open-place : (t : ℕ) (x : Stream) → open_in t x ≡ true → (x.start ≤ t) × (t < end_of x)
unfolding open_in
open-place t x e =
    (leb-true _ _ (left (leb x.start t) (ltb t (end_of x)) e), ltb-true _ _ (right (leb x.start t) e))

-- ---- sums

pub cond-most : (v : Bool) (a m : ℕ) → a ≤ m → cond v a 0 ≤ m
cond-most true a m h = h
cond-most false a m h = omega arith

-- counted from its start and its first showing round
pub open-counted : (t : ℕ) (x : Stream) → x.start ≤ t → x.prefetch ≤ t - x.start
    → ltb (t - x.start - x.prefetch) x.rounds ≡ open_in t x
open-counted t x h k =
    ltb-same (t - x.start - x.prefetch) x.rounds t (end_of x) (λ u. omega arith) (λ u. omega arith)
    ∙ sym (open-from t x h)

pub clear_apart : (x y : Stream) → bit_and x.cabs y.cabs ≡ 0 → not (clashes x y) ≡ true
unfolding clashes
clear_apart x y e = rw (eq-eqb (bit_and x.cabs y.cabs) 0 e)

module _ (x y : Stream) (e : bit_and x.cabs y.cabs ≡ 0 → ⊥) where
  -- x begins to show after y has ended
  pub clear-after : end_of y ≤ x.start + x.prefetch → not (clashes x y) ≡ true
  unfolding clashes
  clear-after h =
      rw (
        ne_eqb (bit_and x.cabs y.cabs) 0 e,
        le-ltb (max (x.start + x.prefetch) (y.start + y.prefetch)) (min (end_of x) (end_of y)) (omega arith),
      )

  -- else they do exactly if y begins to show before x has ended
  pub clear-before : 1 ≤ x.rounds → 1 ≤ y.rounds → x.start + x.prefetch < end_of y
      → leb (end_of x) (y.start + y.prefetch) ≡ not (clashes x y)
  unfolding clashes
  clear-before m n h =
      rw (ne_eqb (bit_and x.cabs y.cabs) 0 e) (go (leb (end_of x) (y.start + y.prefetch)) refl)
    where
      first : ℕ
      first = max (x.start + x.prefetch) (y.start + y.prefetch)

      last : ℕ
      last = min (end_of x) (end_of y)

      go : (v : Bool) → leb (end_of x) (y.start + y.prefetch) ≡ v → leb (end_of x) (y.start + y.prefetch) ≡ not (ltb first last)
      go true u = rw (le-ltb first last (omega (arith, leb-true (end_of x) (y.start + y.prefetch) u))) u
      go false u = rw (lt-ltb first last (omega (arith, leb-false (end_of x) (y.start + y.prefetch) u))) u

module _ (xs : List Stream) (i n : ℕ) (d : Stream) (h : i < n) (k : n ≤ length xs) where
  pub total-next : (g : Stream → ℕ) → total g (slice i n xs) ≡ g (get_or xs i d) + total g (slice (i + 1) n xs)
  total-next g = simp (slice-cons i n xs d h k, add-one)

  pub pairs-no : all (λ y. not (clashes (get_or xs i d) y)) (slice (i + 1) n xs) ≡ false → pairs_clear (slice i n xs) ≡ false
  pairs-no e = simp (slice-cons i n xs d h k, ← add-one, e)

  pub pairs_next : all (λ y. not (clashes (get_or xs i d) y)) (slice (i + 1) n xs) ≡ true
      → pairs_clear (slice i n xs) ≡ pairs_clear (slice (i + 1) n xs)
  pairs_next e = simp (slice-cons i n xs d h k, ← add-one, e)

pub total-end : (g : Stream → ℕ) (xs : List Stream) (i n : ℕ) → i ≡ n → total g (slice i n xs) ≡ 0
total-end g xs i n e = rw (e, slice_empty)

pub pairs_end : (xs : List Stream) (i n : ℕ) → i ≡ n → pairs_clear (slice i n xs) ≡ true
pairs_end xs i n e = rw (e, slice_empty)
