-- A file of the layout is accepted, and its films are those that were encoded. The reads go by what is left of the file from an
-- offset on. Assumes nothing.
use Rattle.std.specs.Prelude.{ℕ, zero, suc, ◌+◌, ◌*◌, ◌^◌, ◌<◌, ◌≤◌, ◌≡◌, true, length, get_or, leb}
use Rattle.std.proofs.Math.Path.{refl, sym, ap}
use Rattle.std.proofs.Common.{◌∙◌, eq-or-lt_of_le, ⊎_elim, lt-ltb, le-leb, leb-true, length-append, drop-drop, get_or-drop}
use mathlib.Core.List.{List, [], ◌∷◌, ◌++◌, append_assoc, append-nil}
use native.Mathlib.Omega.{arith}
use Rattle.std.proofs.Math.ListN.{drop}
use Rattle.std.proofs.Math.Seq.{drop-append_seam}
use Rattle.laws.specs.Tests.{left, right, join, all, all-each, all_append}
use Rattle.laws.specs.Words.{Bytes, bytes, number-bytes, length-bytes, bytes_small}
use Rattle.limits.specs.Bounds.{max_rounds, max_size}
use Rattle.films.specs.Layout.{Film, rounds, entries, all_sizes, size_bytes, round_sum, encode, Rising, ValidFilm, Each, Valid}
use Rattle.films.specs.Sizes.{sizes}
use Rattle.films.specs.Span.{span}
use Rattle.films.specs.Questions.{half, word, films_in, entry_number, entry_rounds, rounds_before, count_at, sizes_in, sizes_at, exceeds, few_rounds, rounds_in_range}
use Rattle.films.specs.Decode.{offset, film_at, films_of}
use Rattle.films.specs.Accepted.{Accepted, Passes}
use Rattle.films.specs.Encoded.{Matches, Small}

-- ---- reads at an offset where bytes are known to stand

-- the byte k places on
byte_at : (s : List ℕ) (at k : ℕ) (l : List ℕ) → drop at s ≡ l → get_or s (at + k) 0 ≡ get_or l k 0
byte_at s at k l e = sym (get_or-drop at s k 0) ∙ ap (λ m. get_or m k 0) e

rest_at : (s : List ℕ) (at k : ℕ) (p r : List ℕ) → length p ≡ k → drop at s ≡ p ++ r → drop (at + k) s ≡ r
rest_at s at k p r n e = sym (drop-drop k at s) ∙ ap (drop k) e ∙ rw (← n) (drop-append_seam p r)

half-read : (s : List ℕ) (at x : ℕ) (r : List ℕ) → x < 2 ^ 16 → drop at s ≡ bytes 2 x ++ r → half s at ≡ x
half-read s at x r h e =
    let z : at + 0 ≡ at = omega arith in
    let a = rw z at (byte_at s at 0 (bytes 2 x ++ r) e) in
    let b = byte_at s at 1 (bytes 2 x ++ r) e in
    let n = number-bytes 2 x (omega arith) in
    rw (a, b) (omega arith)

word_read : (s : List ℕ) (at x : ℕ) (r : List ℕ) → x < 2 ^ 32 → drop at s ≡ bytes 4 x ++ r → word s at ≡ x
word_read s at x r h e =
    let z : at + 0 ≡ at = omega arith in
    let a = rw z at (byte_at s at 0 (bytes 4 x ++ r) e) in
    let b = byte_at s at 1 (bytes 4 x ++ r) e in
    let c = byte_at s at 2 (bytes 4 x ++ r) e in
    let d = byte_at s at 3 (bytes 4 x ++ r) e in
    let n = number-bytes 4 x (omega arith) in
    rw (a, b, c, d) (omega arith)

sizes-read : (s : List ℕ) (xs : List ℕ) (at : ℕ) (r : List ℕ) → Small xs → drop at s ≡ size_bytes xs ++ r → sizes s at (length xs) ≡ xs
sizes-read s [] at r h e = refl
sizes-read s (x ∷ xs) at r h e =
    let l = leb-true x max_size (left (leb x max_size) (all (λ y. leb y max_size) xs) h) in
    let w = word_read s at x (size_bytes xs ++ r) (omega arith) e in
    let t = rest_at s at 4 (bytes 4 x) (size_bytes xs ++ r) (length-bytes 4 x) e in
    ap (λ y. y ∷ sizes s (at + 4) (length xs)) w ∙ ap (λ l. x ∷ l) (sizes-read s xs (at + 4) r (right (leb x max_size) h) t)

length-size_bytes : (xs : List ℕ) → length (size_bytes xs) ≡ 4 * length xs
length-size_bytes [] = refl
length-size_bytes (x ∷ xs) = omega (arith, length-size_bytes xs)

size_bytes-append : (xs ys : List ℕ) → size_bytes (xs ++ ys) ≡ size_bytes xs ++ size_bytes ys
size_bytes-append [] ys = refl
size_bytes-append (x ∷ xs) ys = ap (λ l. bytes 4 x ++ l) (size_bytes-append xs ys)

length-all_sizes : (fs : List Film) → length (all_sizes fs) ≡ round_sum fs
length-all_sizes [] = refl
length-all_sizes (f ∷ fs) = length-append f.sizes (all_sizes fs) ∙ ap (λ n. rounds f + n) (length-all_sizes fs)

film-small : (f : Film) → ValidFilm f → Small f.sizes
film-small f v = all-each (λ x. leb x max_size) f.sizes 0 (λ i h. le-leb _ _ (v.small i))

films-small : (fs : List Film) → Each fs → Small (all_sizes fs)
films-small [] v = refl
films-small (f ∷ fs) v = all_append (λ x. leb x max_size) f.sizes (all_sizes fs) (film-small f v.0) (films-small fs v.1)

pub sum_bound : (fs : List Film) → Each fs → round_sum fs ≤ max_rounds * length fs
sum_bound [] v = omega arith
sum_bound (f ∷ fs) v = omega (arith, sum_bound fs v.1, v.0.few)

entries-read : (s : List ℕ) (fs : List Film) (i : ℕ) (t : List ℕ) → Each fs → drop (2 + 4 * i) s ≡ entries fs ++ t
    → Matches s i fs × (drop (2 + 4 * (i + length fs)) s ≡ t)
entries-read s [] i t v e = let z : i + 0 ≡ i = omega arith in (tt, rw z e)
entries-read s (f ∷ fs) i t v e =
    let a : 2 + 4 * i + 2 ≡ 4 + 4 * i = omega arith in
    let b : 4 + 4 * i + 2 ≡ 2 + 4 * suc i = omega arith in
    let c : suc i + length fs ≡ i + suc (length fs) = omega arith in
    let few = v.0.few in
    let p = rw a at (rest_at s (2 + 4 * i) 2 (bytes 2 f.number) (bytes 2 (rounds f) ++ (entries fs ++ t)) (length-bytes 2 f.number) e) in
    let q = rw b at (rest_at s (4 + 4 * i) 2 (bytes 2 (rounds f)) (entries fs ++ t) (length-bytes 2 (rounds f)) p) in
    let m = entries-read s fs (suc i) t v.1 q in (
      (
        (
          half-read s (2 + 4 * i) f.number (bytes 2 (rounds f) ++ (entries fs ++ t)) v.0.number e,
          half-read s (4 + 4 * i) (rounds f) (entries fs ++ t) (omega arith) p,
        ),
        m.0,
      ),
      rw c at m.1,
    )

length-entries : (fs : List Film) → length (entries fs) ≡ 4 * length fs
length-entries [] = refl
length-entries (f ∷ fs) = omega (arith, length-entries fs)

matches-sum : (s : List ℕ) (fs : List Film) (i : ℕ) → Matches s i fs → rounds_before s i + round_sum fs ≡ rounds_before s (i + length fs)
matches-sum s [] i m = let z : i + 0 ≡ i = omega arith in rw z (omega arith)
matches-sum s (f ∷ fs) i m =
    let c : suc i + length fs ≡ i + suc (length fs) = omega arith in
    omega (arith, matches-sum s fs (suc i) m.1, ap (rounds_before s) c, m.0.1)

passes-one : (s : List ℕ) (f : Film) (i : ℕ) → ValidFilm f → entry_rounds s i ≡ rounds f → few_rounds s i ≡ true
unfolding rounds_in_range
passes-one s f i v e =
    let a : 1 ≤ entry_rounds s i = omega (arith, v.some) in
    let b : entry_rounds s i ≤ max_rounds = omega (arith, v.few) in
    join (le-leb _ _ a) (le-leb _ _ b)

exceeds-next : (s : List ℕ) (f g : Film) (i : ℕ) → f.number < g.number → entry_number s i ≡ f.number → entry_number s (suc i) ≡ g.number
    → exceeds s (suc i) ≡ true
unfolding exceeds
exceeds-next s f g i h a b =
    let l : entry_number s i < entry_number s (suc i) = omega arith in
    lt-ltb _ _ l

matches-pass : (s : List ℕ) (fs : List Film) (i : ℕ) → exceeds s i ≡ true → Each fs → Rising fs → Matches s i fs
    → (j : ℕ) → i ≤ j → j < i + length fs → Passes s j
matches-pass s [] i x v r m j p q = absurd (omega arith)
matches-pass s (f ∷ []) i x v r m j p q =
    let z : i ≡ j = omega arith in
    rw (← z) (x, passes-one s f i v.0 m.0.1)
matches-pass s (f ∷ g ∷ fs) i x v r m j p q =
    ⊎_elim (λ z. rw (← z) (x, passes-one s f i v.0 m.0.1))
    (λ z. matches-pass s (g ∷ fs) (suc i) (exceeds-next s f g i r.0 m.0.0 m.1.0.0) v.1 r.1 m.1 j z (omega arith))
    (eq-or-lt_of_le p)

film-is : (f : Film) (n : ℕ) (xs : List ℕ) → n ≡ f.number → xs ≡ f.sizes → record { number = n; sizes = xs } ≡ f
film-is f n xs e g = rw (e, g)

matches-films : (s : List ℕ) (fs : List Film) (i : ℕ) (r : List ℕ) → Each fs → Matches s i fs → drop (offset s i) s ≡ size_bytes (all_sizes fs) ++ r
    → span (film_at s) i (length fs) ≡ fs
matches-films s [] i r v m e = refl
matches-films s (f ∷ fs) i r v m e =
    let cut : drop (offset s i) s ≡ size_bytes f.sizes ++ (size_bytes (all_sizes fs) ++ r) =
    e ∙ ap (λ l. l ++ r) (size_bytes-append f.sizes (all_sizes fs)) ∙ append_assoc (size_bytes f.sizes) (size_bytes (all_sizes fs)) r in
    let own = sizes-read s f.sizes (offset s i) (size_bytes (all_sizes fs) ++ r) (film-small f v.0) cut in
    let o : offset s i + 4 * rounds f ≡ offset s (suc i) = omega (arith, m.0.1) in
    let next = rest_at s (offset s i) (4 * rounds f) (size_bytes f.sizes) (size_bytes (all_sizes fs) ++ r) (length-size_bytes f.sizes) cut in
    ap (λ g. g ∷ span (film_at s) (suc i) (length fs))
    (film-is f (entry_number s i) (sizes s (offset s i) (entry_rounds s i)) m.0.0 (ap (sizes s (offset s i)) m.0.1 ∙ own))
    ∙ ap (λ l. f ∷ l) (matches-films s fs (suc i) r v.1 m.1 (rw o at next))

-- ---- the whole

pub length-encode : (fs : List Film) → length (encode fs) ≡ 6 + 4 * length fs + 4 * round_sum fs
length-encode fs =
    let a = length-append (entries fs) (bytes 4 (round_sum fs) ++ size_bytes (all_sizes fs)) in
    let b = length-entries fs in
    let c = length-size_bytes (all_sizes fs) in
    let d = length-all_sizes fs in
    omega arith

module _ (s : List ℕ) (fs : List Film) (v : Valid fs) (e : s ≡ encode fs) where
  tail : List ℕ
  tail = bytes 4 (round_sum fs) ++ size_bytes (all_sizes fs)

  count : films_in s ≡ length fs
  unfolding tail
  count = half-read s 0 (length fs) (entries fs ++ tail) (omega (arith, v.few)) e

  read : Matches s 0 fs × (drop (2 + 4 * (0 + length fs)) s ≡ tail)
  unfolding tail
  read = entries-read s fs 0 tail v.each (ap (drop 2) e)

  at_count : drop (count_at s) s ≡ tail
  at_count =
      let z : 2 + 4 * (0 + length fs) ≡ count_at s = omega (arith, count) in
      rw z at read.1

  second : sizes_in s ≡ round_sum fs
  unfolding tail
  second = word_read s (count_at s) (round_sum fs) (size_bytes (all_sizes fs)) (omega (arith, sum_bound fs v.each, v.few)) at_count

  at-sizes : drop (sizes_at s) s ≡ size_bytes (all_sizes fs)
  unfolding tail
  at-sizes =
      let z : count_at s + 4 ≡ sizes_at s = omega arith in
      rw z at (rest_at s (count_at s) 4 (bytes 4 (round_sum fs)) (size_bytes (all_sizes fs)) (length-bytes 4 (round_sum fs)) at_count)

  sizes-are : sizes s (sizes_at s) (sizes_in s) ≡ all_sizes fs
  sizes-are =
      let z : sizes_in s ≡ length (all_sizes fs) = omega (arith, second, length-all_sizes fs) in
      ap (sizes s (sizes_at s)) z
      ∙ sizes-read s (all_sizes fs) (sizes_at s) [] (films-small fs v.each) (at-sizes ∙ sym (append-nil (size_bytes (all_sizes fs))))

  first-exceeds : exceeds s 0 ≡ true
  unfolding exceeds
  first-exceeds = refl

  pub encoded : Accepted s
  encoded = record {
    some = omega (arith, count, v.some);
    few = omega (arith, count, v.few);
    passes = λ i h. matches-pass s fs 0 first-exceeds v.each v.rising read.0 i (omega arith) (omega (arith, count));
    total =
        let z : 0 + length fs ≡ films_in s = omega (arith, count) in
        omega (arith, second, matches-sum s fs 0 read.0, ap (rounds_before s) z);
    small = ap (all (λ x. leb x max_size)) sizes-are ∙ films-small fs v.each;
    ends = omega (arith, ap length e, length-encode fs, count, second);
  }

  pub encoded-films : films_of s ≡ fs
  unfolding films_of
  encoded-films =
      let z : sizes_at s ≡ offset s 0 = omega arith in
      ap (span (film_at s) 0) count
      ∙ matches-films s fs 0 [] v.each read.0 (ap (λ k. drop k s) (sym z) ∙ at-sizes ∙ sym (append-nil (size_bytes (all_sizes fs))))

-- ---- an encoding is a list of bytes

bytes-append : (l m : List ℕ) → Bytes l → Bytes m → Bytes (l ++ m)
bytes-append [] m b c k = c k
bytes-append (x ∷ l) m b c zero = b 0
bytes-append (x ∷ l) m b c (suc k) = bytes-append l m (λ j. b (suc j)) c k

entries-bytes : (fs : List Film) → Bytes (entries fs)
entries-bytes [] = λ k. omega arith
entries-bytes (f ∷ fs) =
    bytes-append (bytes 2 f.number ++ bytes 2 (rounds f)) (entries fs)
    (bytes-append (bytes 2 f.number) (bytes 2 (rounds f)) (bytes_small 2 f.number) (bytes_small 2 (rounds f)))
    (entries-bytes fs)

size_bytes-bytes : (xs : List ℕ) → Bytes (size_bytes xs)
size_bytes-bytes [] = λ k. omega arith
size_bytes-bytes (x ∷ xs) = bytes-append (bytes 4 x) (size_bytes xs) (bytes_small 4 x) (size_bytes-bytes xs)

pub encode-bytes : (fs : List Film) → Bytes (encode fs)
encode-bytes fs =
    bytes-append (bytes 2 (length fs) ++ entries fs) (bytes 4 (round_sum fs) ++ size_bytes (all_sizes fs))
    (bytes-append (bytes 2 (length fs)) (entries fs) (bytes_small 2 (length fs)) (entries-bytes fs))
    (bytes-append (bytes 4 (round_sum fs)) (size_bytes (all_sizes fs)) (bytes_small 4 (round_sum fs)) (size_bytes-bytes (all_sizes fs)))
