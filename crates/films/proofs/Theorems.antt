-- Demand 2: "The film reader accepts exactly the files of the stated layout.", and what an accepted file's sizes and length are
-- at most. Assumes nothing.
use Rattle.std.specs.Prelude.{ℕ, suc, ◌*◌, ◌^◌, ◌<◌, ◌≤◌, ◌≡◌, refl, List, [], ◌∷◌, Bool, true, false, cond, length, get_or, eqb}
use Rattle.std.proofs.Common.{sym, ap, ◌∙◌, arith, mul-suc}
use Rattle.laws.specs.Sums.{sum}
use Rattle.laws.specs.Words.{Bytes}
use Rattle.limits.specs.Bounds.{max_size}
use Rattle.films.specs.Layout.{Film, encode, ValidFilm, Each, Valid, sizes_of}
use Rattle.films.specs.Questions.{verdict}
use Rattle.films.specs.Decode.{films_of}
use Rattle.films.proofs.Accepted.{accepted, acceptance}
use Rattle.films.proofs.Decoded.{decoded, decoded-valid}
use Rattle.films.proofs.Encoded.{encoded, encoded-films, length-encode, sum_bound}
use Rattle.films.specs.Theorems.{OfLayout}

-- accepted exactly if of the layout
pub accepts : (s : List ℕ) → Bytes s → (verdict s ≡ 0 → OfLayout s) × (OfLayout s → verdict s ≡ 0)
accepts s b = (
  λ e. let a = accepted s e in record { films = films_of s; valid = decoded-valid s a b; bytes = decoded s a b },
  λ o. acceptance s (encoded s o.films o.valid o.bytes),
)

-- the films of such a file are those that its bytes are read as
pub films-of : (s : List ℕ) (o : OfLayout s) → films_of s ≡ o.films
films-of s o = encoded-films s o.films o.valid o.bytes

-- .. so there are no others
pub unique : (fs gs : List Film) → Valid fs → Valid gs → encode fs ≡ encode gs → fs ≡ gs
unique fs gs v w e = sym (encoded-films (encode fs) fs v refl) ∙ encoded-films (encode fs) gs w e

-- ---- bounds

pub total-bound : (xs : List ℕ) (m : ℕ) → ((i : ℕ) → get_or xs i 0 ≤ m) → sum xs ≤ m * length xs
total-bound [] m h = omega arith
total-bound (x ∷ xs) m h =
    let t = total-bound xs m (λ i. h (suc i)) in
    omega (arith, h 0, mul-suc m (length xs))

-- a film's total is below 2^36 bytes
pub film-total : (f : Film) → ValidFilm f → sum f.sizes < 2 ^ 36
film-total f v = omega (arith, total-bound f.sizes max_size v.small, v.few)

-- .. and so is the total of any film of the file, by its number
pub each-total : (fs : List Film) → Each fs → (k : ℕ) → sum (sizes_of fs k) < 2 ^ 36
each-total [] v k = omega arith
each-total (f ∷ fs) v k = go (eqb f.number k) (film-total f v.0) (each-total fs v.1 k)
  where
    go : (b : Bool) → sum f.sizes < 2 ^ 36 → sum (sizes_of fs k) < 2 ^ 36 → sum (cond b f.sizes (sizes_of fs k)) < 2 ^ 36
    go true h g = h
    go false h g = g

pub accepted-total : (s : List ℕ) → Bytes s → verdict s ≡ 0 → (k : ℕ) → sum (sizes_of (films_of s) k) < 2 ^ 36
accepted-total s b e k = each-total (films_of s) (decoded-valid s (accepted s e) b).each k

-- an accepted file has at most 1,048,838 bytes
pub file-length : (s : List ℕ) → Bytes s → verdict s ≡ 0 → length s ≤ 1048838
file-length s b e =
    let o = (accepts s b).0 e in
    omega (arith, length-encode o.films, sum_bound o.films o.valid.each, o.valid.few, ap length o.bytes)
