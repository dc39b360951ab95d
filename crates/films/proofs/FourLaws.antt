-- Sizes tested by fours: a size is within the bound exactly if its fourth byte is 0, and a join of bytes is 0 exactly if each is. Assumes
-- nothing.
use Prim.Native.Nat.{ℕ, zero, suc, ◌+◌, ◌*◌, ◌-◌, ◌<◌, ◌≤◌}
use mathlib.Core.Path.{◌≡◌, refl, sym, ap, ◌∙◌}
use mathlib.Core.Bool.{Bool, true, false, ◌&&◌}
use mathlib.Core.List.{List, [], ◌∷◌, ◌++◌}
use native.Mathlib.Omega.{arith}
use native.Mathlib.Decide.{dec_le}
use borrow.Author.Tests.{le-leb, lt-leb, eq-eqb, ne_eqb}
use lib.ListN.{get_or}
use lib.Dec.{leb, eqb}
use lib.Bits.{bit_or, or_add_and, and_le_l, and_le_r}
use Rattle.std.specs.List.{list_all, range_with_len}
use Rattle.laws.specs.Tests.{all}
use Rattle.laws.specs.Words.{Bytes}
use Rattle.limits.specs.Bounds.{max_size}
use Rattle.films.specs.Sizes.{size, sizes}
use Rattle.films.specs.Questions.{small_sizes}
use Rattle.films.proofs.SizeLaws.{sizes-cut, sizes_test}

-- a size is within the bound exactly if its fourth byte is 0
small-byte : (s : List ℕ) (at : ℕ) → Bytes s → leb (size s at) max_size ≡ eqb (get_or s (at + 3) 0) 0
small-byte s at b = go (dec_le (get_or s (at + 3) 0) 0)
  where
    go : Dec (get_or s (at + 3) 0 ≤ 0) → leb (size s at) max_size ≡ eqb (get_or s (at + 3) 0) 0
    go (yes z) =
        let l : size s at ≤ max_size = omega (arith, b at, b (at + 1), b (at + 2)) in
        let e : get_or s (at + 3) 0 ≡ 0 = omega arith in
        le-leb _ _ l ∙ sym (eq-eqb _ _ e)
    go (no z) =
        let l : max_size < size s at = omega arith in
        let e : get_or s (at + 3) 0 ≡ 0 → ⊥ = λ q. omega arith in
        lt-leb _ _ l ∙ sym (ne_eqb _ _ e)

-- a join of bytes is 0 exactly if both are
or-none : (a b : ℕ) → eqb (bit_or a b) 0 ≡ eqb a 0 && eqb b 0
or-none a b = go (dec_le a 0) (dec_le b 0)
  where
    go : Dec (a ≤ 0) → Dec (b ≤ 0) → eqb (bit_or a b) 0 ≡ eqb a 0 && eqb b 0
    go (yes p) (yes q) =
        let x : a ≡ 0 = omega arith in
        let y : b ≡ 0 = omega arith in
        let z : bit_or a b ≡ 0 = omega (arith, or_add_and a b) in
        rw (eq-eqb _ _ z, eq-eqb _ _ x, eq-eqb _ _ y)
    go (yes p) (no q) =
        let y : b ≡ 0 → ⊥ = λ e. omega arith in
        let x : a ≡ 0 = omega arith in
        let z : bit_or a b ≡ 0 → ⊥ = λ e. omega (arith, or_add_and a b, and_le_l a b) in
        rw (ne_eqb _ _ z, eq-eqb _ _ x, ne_eqb _ _ y)
    go (no p) q =
        let x : a ≡ 0 → ⊥ = λ e. omega arith in
        let z : bit_or a b ≡ 0 → ⊥ = λ e. omega (arith, or_add_and a b, and_le_r a b) in
        rw (ne_eqb _ _ z, ne_eqb _ _ x)

and-true : (a : Bool) → a && true ≡ a
and-true true = refl
and-true false = refl

and_assoc : (a b c : Bool) → (a && b) && c ≡ a && (b && c)
and_assoc true b c = refl
and_assoc false b c = refl

pub four-small : (s : List ℕ) (at : ℕ) → Bytes s
    → eqb (bit_or (bit_or (bit_or (get_or s (at + 3) 0) (get_or s (at + 7) 0)) (get_or s (at + 11) 0)) (get_or s (at + 15) 0)) 0 ≡ small_sizes s at 4
four-small s at b =
    let e1 : at + 4 + 3 ≡ at + 7 = omega arith in
    let e2 : at + 4 + 4 + 3 ≡ at + 11 = omega arith in
    let e3 : at + 4 + 4 + 4 + 3 ≡ at + 15 = omega arith in
    sym
    (rw (
      small-byte s at b,
      small-byte s (at + 4) b,
      small-byte s (at + 4 + 4) b,
      small-byte s (at + 4 + 4 + 4) b,
      e1,
      e2,
      e3,
    )
    (simp (or-none, and_assoc, and-true)))

all_join : {A : Type 0} (f : A → Bool) (l m : List A) → all f (l ++ m) ≡ all f l && all f m
all_join f [] m = refl
all_join f (x ∷ l) m = ap (λ b. f x && b) (all_join f l m) ∙ sym (and_assoc (f x) (all f l) (all f m))

-- k sizes in front of n others
small_cut : (s : List ℕ) (at k n : ℕ) → small_sizes s at (k + n) ≡ small_sizes s at k && small_sizes s (at + 4 * k) n
small_cut s at k n =
    ap (all (λ x. leb x max_size)) (sizes-cut s at k n) ∙ all_join (λ x. leb x max_size) (sizes s at k) (sizes s (at + 4 * k) n)

-- n fours, from the k-th on
fours_test : (s : List ℕ) (at k n : ℕ) → list_all (λ i. small_sizes s (at + 16 * i) 4) (range_with_len k n) ≡ small_sizes s (at + 16 * k) (4 * n)
fours_test s at k zero = refl
fours_test s at k (suc n) =
    let e : 4 * suc n ≡ 4 + 4 * n = omega arith in
    let f : at + 16 * (k + 1) ≡ at + 16 * k + 4 * 4 = omega arith in
    ap (λ b. small_sizes s (at + 16 * k) 4 && b) (fours_test s at (k + 1) n ∙ ap (λ a. small_sizes s a (4 * n)) f)
    ∙ sym (ap (small_sizes s (at + 16 * k)) e ∙ small_cut s (at + 16 * k) 4 (4 * n))

-- all fours, then the sizes after them
pub fours_small : (s : List ℕ) (at n q : ℕ) → 4 * q ≤ n
    → list_all (λ i. small_sizes s (at + 16 * i) 4) (range_with_len 0 q)
    && list_all (λ i. leb (size s (at + 4 * i)) max_size) (range_with_len (4 * q) (n - 4 * q))
    ≡ small_sizes s at n
fours_small s at n q h =
    let e : 4 * q + (n - 4 * q) ≡ n = omega arith in
    let f : at + 16 * 0 ≡ at = omega arith in
    ap (λ b. b && list_all (λ i. leb (size s (at + 4 * i)) max_size) (range_with_len (4 * q) (n - 4 * q)))
    (fours_test s at 0 q ∙ ap (λ a. small_sizes s a (4 * q)) f)
    ∙ ap (λ b. small_sizes s at (4 * q) && b) (sizes_test s at (4 * q) (n - 4 * q) (λ x. leb x max_size))
    ∙ sym (small_cut s at (4 * q) (n - 4 * q))
    ∙ ap (small_sizes s at) e
