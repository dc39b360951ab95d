-- An accepted file is of the layout: it is the encoding of its films, and they are valid. Assumes nothing.
use Prim.Native.Nat.{ℕ, zero, suc, ◌+◌, ◌*◌, ◌-◌, ◌<◌, ◌≤◌}
use Rattle.std.specs.Prelude.{◌≡◌, List, [], ◌∷◌, ◌++◌, get_or}
use Rattle.std.proofs.Common.{sym, ◌∙◌, append_assoc, append-nil, ltb-true, drop_of_length-le, drop-cons}
use Rattle.std.proofs.Math.Path.{ap}
use native.Mathlib.Omega.{arith}
use Rattle.std.proofs.Math.ListN.{length, drop}
use Rattle.laws.specs.Words.{Bytes, bytes, bytes-number}
use Rattle.films.specs.Layout.{Film, rounds, entries, all_sizes, size_bytes, round_sum, encode, Rising, Each, Valid}
use Rattle.films.specs.Sizes.{sizes}
use Rattle.films.proofs.SizeLaws.{length-sizes, sizes-cut}
use Rattle.films.specs.Span.{span}
use Rattle.films.proofs.Span.{length-span}
use Rattle.films.specs.Questions.{half, word, films_in, entry_number, entry_rounds, rounds_before, count_at, sizes_in, sizes_at, exceeds}
use Rattle.films.specs.Decode.{offset, film_at, films_of}
use Rattle.films.specs.Accepted.{Accepted}
use Rattle.films.proofs.FilmLaws.{rounds-rise, rounds-some, rounds-few, film-stored}

no_bytes : Bytes []
no_bytes k = omega arith

byte-first : (a : ℕ) (l : List ℕ) → a < 256 → Bytes l → Bytes (a ∷ l)
byte-first a l h b zero = h
byte-first a l h b (suc k) = b k

pub two_bytes : (a b : ℕ) → a < 256 → b < 256 → bytes 2 (a + 256 * b) ≡ a ∷ b ∷ []
two_bytes a b h g =
    let e : a + 256 * b ≡ a + 256 * (b + 256 * 0) = omega arith in
    ap (bytes 2) e ∙ bytes-number (a ∷ b ∷ []) (byte-first a (b ∷ []) h (byte-first b [] g no_bytes))

pub four_bytes : (a b c d : ℕ) → a < 256 → b < 256 → c < 256 → d < 256
    → bytes 4 (a + 256 * b + 65536 * c + 16777216 * d) ≡ a ∷ b ∷ c ∷ d ∷ []
four_bytes a b c d h g i j =
    let e : a + 256 * b + 65536 * c + 16777216 * d ≡ a + 256 * (b + 256 * (c + 256 * (d + 256 * 0))) = omega arith in
    let q = byte-first c (d ∷ []) i (byte-first d [] j no_bytes) in
    ap (bytes 4) e ∙ bytes-number (a ∷ b ∷ c ∷ d ∷ []) (byte-first a (b ∷ c ∷ d ∷ []) h (byte-first b (c ∷ d ∷ []) g q))

-- one byte in front of the rest
drop-byte : (s : List ℕ) (at : ℕ) → at < length s → drop at s ≡ get_or s at 0 ∷ drop (at + 1) s
drop-byte s at h = let e : at + 1 ≡ suc at = omega arith in rw e (drop-cons s at 0 h)

drop-two : (s : List ℕ) (at : ℕ) → at + 2 ≤ length s → drop at s ≡ get_or s at 0 ∷ get_or s (at + 1) 0 ∷ drop (at + 2) s
drop-two s at h =
    let e : at + 2 ≡ at + 1 + 1 = omega arith in
    rw e (drop-byte s at (omega arith) ∙ ap (λ l. get_or s at 0 ∷ l) (drop-byte s (at + 1) (omega arith)))

drop-four : (s : List ℕ) (at : ℕ) → at + 4 ≤ length s
    → drop at s ≡ get_or s at 0 ∷ get_or s (at + 1) 0 ∷ get_or s (at + 2) 0 ∷ get_or s (at + 3) 0 ∷ drop (at + 4) s
drop-four s at h =
    let e : at + 4 ≡ at + 2 + 2 = omega arith in
    let f : at + 3 ≡ at + 2 + 1 = omega arith in
    rw (e, f) (drop-two s at (omega arith) ∙ ap (λ l. get_or s at 0 ∷ get_or s (at + 1) 0 ∷ l) (drop-two s (at + 2) (omega arith)))

module _ (s : List ℕ) (b : Bytes s) where
  -- a number read is the bytes that stand there
  half-stands : (at : ℕ) → at + 2 ≤ length s → drop at s ≡ bytes 2 (half s at) ++ drop (at + 2) s
  half-stands at h =
      drop-two s at h ∙ ap (λ l. l ++ drop (at + 2) s) (sym (two_bytes (get_or s at 0) (get_or s (at + 1) 0) (b at) (b (at + 1))))

  word_stands : (at : ℕ) → at + 4 ≤ length s → drop at s ≡ bytes 4 (word s at) ++ drop (at + 4) s
  word_stands at h =
      let w = four_bytes (get_or s at 0) (get_or s (at + 1) 0) (get_or s (at + 2) 0) (get_or s (at + 3) 0) (b at) (b (at + 1)) (b (at + 2)) (b (at + 3)) in
      drop-four s at h ∙ ap (λ l. l ++ drop (at + 4) s) (sym w)

  sizes-stand : (at n : ℕ) → at + 4 * n ≤ length s → drop at s ≡ size_bytes (sizes s at n) ++ drop (at + 4 * n) s
  sizes-stand at zero h = let e : at + 4 * 0 ≡ at = omega arith in rw e
  sizes-stand at (suc n) h =
      let e : (at + 4) + 4 * n ≡ at + 4 * suc n = omega arith in
      let i = sizes-stand (at + 4) n (omega arith) in
      word_stands at (omega arith)
      ∙ ap (λ l. bytes 4 (word s at) ++ l) (rw e at i)
      ∙ sym (append_assoc (bytes 4 (word s at)) (size_bytes (sizes s (at + 4) n)) (drop (at + 4 * suc n) s))

  -- an entry
  entry-stands : (i : ℕ) → 2 + 4 * suc i ≤ length s
      → drop (2 + 4 * i) s ≡ (bytes 2 (entry_number s i) ++ bytes 2 (rounds (film_at s i))) ++ drop (2 + 4 * suc i) s
  entry-stands i h =
      let f : 2 + 4 * suc i ≡ 4 + 4 * i + 2 = omega arith in
      let g : 2 + 4 * i + 2 ≡ 4 + 4 * i = omega arith in
      let p = half-stands (2 + 4 * i) (omega arith) in
      let q = half-stands (4 + 4 * i) (omega arith) in
      let m = length-sizes s (offset s i) (entry_rounds s i) in
      p
      ∙ ap (λ l. bytes 2 (entry_number s i) ++ l)
      (ap (λ k. drop k s) g
      ∙ q
      ∙ ap (λ k. bytes 2 (entry_rounds s i) ++ drop k s) (sym f)
      ∙ ap (λ k. bytes 2 k ++ drop (2 + 4 * suc i) s) (sym m))
      ∙ sym (append_assoc (bytes 2 (entry_number s i)) (bytes 2 (rounds (film_at s i))) (drop (2 + 4 * suc i) s))

  entries-stand : (i k : ℕ) → 2 + 4 * (i + k) ≤ length s → drop (2 + 4 * i) s ≡ entries (span (film_at s) i k) ++ drop (2 + 4 * (i + k)) s
  entries-stand i zero h = let e : i + 0 ≡ i = omega arith in rw e
  entries-stand i (suc k) h =
      let e : suc i + k ≡ i + suc k = omega arith in
      let j = entries-stand (suc i) k (omega arith) in
      let one = bytes 2 (entry_number s i) ++ bytes 2 (rounds (film_at s i)) in
      entry-stands i (omega arith)
      ∙ ap (λ l. one ++ l) (rw e at j)
      ∙ sym (append_assoc one (entries (span (film_at s) (suc i) k)) (drop (2 + 4 * (i + suc k)) s))

-- the films' sizes in a row are the sizes that stand in the file
all-sizes : (s : List ℕ) (i k m : ℕ) → rounds_before s i + m ≡ rounds_before s (i + k) → all_sizes (span (film_at s) i k) ≡ sizes s (offset s i) m
all-sizes s i zero m h =
    let e : i + 0 ≡ i = omega arith in
    let z : m ≡ 0 = omega (arith, ap (rounds_before s) e) in
    rw z
all-sizes s i (suc k) m h =
    let e : suc i + k ≡ i + suc k = omega arith in
    let le = rounds-rise s (suc i) (suc i + k) (omega arith) in
    let ee = ap (rounds_before s) e in
    let c : entry_rounds s i + (m - entry_rounds s i) ≡ m = omega arith in
    let o : offset s i + 4 * entry_rounds s i ≡ offset s (suc i) = omega arith in
    let j = all-sizes s (suc i) k (m - entry_rounds s i) (omega arith) in
    ap (λ l. sizes s (offset s i) (entry_rounds s i) ++ l) (j ∙ ap (λ at. sizes s at (m - entry_rounds s i)) (sym o))
    ∙ sym (sizes-cut s (offset s i) (entry_rounds s i) (m - entry_rounds s i))
    ∙ ap (sizes s (offset s i)) c

round-sum : (s : List ℕ) (i k : ℕ) → rounds_before s i + round_sum (span (film_at s) i k) ≡ rounds_before s (i + k)
round-sum s i zero = let e : i + 0 ≡ i = omega arith in rw e (omega arith)
round-sum s i (suc k) =
    let e : suc i + k ≡ i + suc k = omega arith in
    omega (arith, round-sum s (suc i) k, ap (rounds_before s) e, length-sizes s (offset s i) (entry_rounds s i))

-- ---- the whole

-- four parts in a row, and nothing after the last
in_a_row : (s p q r u a e w z : List ℕ) → s ≡ a ++ p → p ≡ e ++ q → q ≡ w ++ r → r ≡ z ++ u → u ≡ [] → s ≡ (a ++ e) ++ (w ++ z)
in_a_row s p q r u a e w z h1 h2 h3 h4 h5 = rw (h1, h2, h3, h4, h5) (simp (append_assoc, append-nil))

-- the layout's parts, with the two counts
row : ℕ → List ℕ → ℕ → List ℕ → List ℕ
row F e S x = (bytes 2 F ++ e) ++ (bytes 4 S ++ size_bytes x)

row-encode : (fs : List Film) (F S : ℕ) (x : List ℕ) → length fs ≡ F → round_sum fs ≡ S → all_sizes fs ≡ x → row F (entries fs) S x ≡ encode fs
unfolding row
row-encode fs F S x e f g =
    ap (λ n. row n (entries fs) S x) (sym e)
    ∙ ap (λ n. row (length fs) (entries fs) n x) (sym f)
    ∙ ap (λ l. row (length fs) (entries fs) (round_sum fs) l) (sym g)

module _ (s : List ℕ) (a : Accepted s) where
  films-sum : round_sum (span (film_at s) 0 (films_in s)) ≡ sizes_in s
  films-sum =
      let z : 0 + films_in s ≡ films_in s = omega arith in
      omega (arith, round-sum s 0 (films_in s), ap (rounds_before s) z, a.total)

  films-sizes : all_sizes (span (film_at s) 0 (films_in s)) ≡ sizes s (sizes_at s) (sizes_in s)
  films-sizes =
      let z : 0 + films_in s ≡ films_in s = omega arith in
      let o : offset s 0 ≡ sizes_at s = omega arith in
      all-sizes s 0 (films_in s) (sizes_in s) (omega (arith, ap (rounds_before s) z, a.total)) ∙ ap (λ at. sizes s at (sizes_in s)) o

  parts : Bytes s → s ≡ row (films_in s) (entries (span (film_at s) 0 (films_in s))) (sizes_in s) (sizes s (sizes_at s) (sizes_in s))
  unfolding row
  parts b =
      let n = a.ends in
      let l2 : 2 ≤ length s = omega arith in
      let lc : 2 + 4 * (0 + films_in s) ≤ length s = omega arith in
      let ls : count_at s + 4 ≤ length s = omega arith in
      let le : sizes_at s + 4 * sizes_in s ≤ length s = omega arith in
      let lz : length s ≤ sizes_at s + 4 * sizes_in s = omega arith in
      let z : 2 + 4 * (0 + films_in s) ≡ count_at s = omega arith in
      let y : count_at s + 4 ≡ sizes_at s = omega arith in
      in_a_row s (drop 2 s) (drop (count_at s) s) (drop (sizes_at s) s) (drop (sizes_at s + 4 * sizes_in s) s)
      (bytes 2 (films_in s)) (entries (span (film_at s) 0 (films_in s))) (bytes 4 (sizes_in s)) (size_bytes (sizes s (sizes_at s) (sizes_in s)))
      (half-stands s b 0 l2)
      (entries-stand s b 0 (films_in s) lc ∙ ap (λ k. entries (span (film_at s) 0 (films_in s)) ++ drop k s) z)
      (word_stands s b (count_at s) ls ∙ ap (λ k. bytes 4 (sizes_in s) ++ drop k s) y)
      (sizes-stand s b (sizes_at s) (sizes_in s) le)
      (drop_of_length-le s lz)

  pub decoded : Bytes s → s ≡ encode (films_of s)
  unfolding films_of
  decoded b =
      parts b
      ∙ row-encode (span (film_at s) 0 (films_in s)) (films_in s) (sizes_in s) (sizes s (sizes_at s) (sizes_in s))
      (length-span (film_at s) 0 (films_in s)) films-sum films-sizes

  -- ---- the films are valid

  each-valid : Bytes s → (i k : ℕ) → i + k ≤ films_in s → Each (span (film_at s) i k)
  each-valid b i zero h = tt
  each-valid b i (suc k) h =
      let l = length-sizes s (offset s i) (entry_rounds s i) in
      let some = rounds-some s a i (omega arith) in
      let few = rounds-few s a i (omega arith) in (
        record {
          number = omega (arith, b (2 + 4 * i), b (2 + 4 * i + 1));
          some = omega arith;
          few = omega arith;
          small = (film-stored s a i (omega arith)).small;
        },
        each-valid b (suc i) k (omega arith),
      )

  rising : (i k : ℕ) → i + k ≤ films_in s → Rising (span (film_at s) i k)
  unfolding exceeds
  rising i zero h = tt
  rising i (suc zero) h = tt
  rising i (suc (suc k)) h = (ltb-true _ _ (a.passes (suc i) (omega arith)).0, rising (suc i) (suc k) (omega arith))

  pub decoded-valid : Bytes s → Valid (films_of s)
  unfolding films_of
  decoded-valid b =
      let l = length-span (film_at s) 0 (films_in s) in
      record {
        some = omega (arith, a.some);
        few = omega (arith, a.few);
        rising = rising 0 (films_in s) (omega arith);
        each = each-valid b 0 (films_in s) (omega arith);
      }
