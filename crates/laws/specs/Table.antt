-- A table's rule: one test, computed over the whole table, holds at each entry. Assumes nothing.
use Rattle.std.specs.Prelude.{◌≡◌, Bool, true, ◌&&◌, List, [], ◌∷◌, ℕ, zero, suc, ◌+◌, ◌<◌, length, get_or}
use Rattle.std.proofs.Common.{arith, not-suc-le-zero, le_of_suc-le-suc}
use Rattle.laws.specs.Tests.{left, right}

-- the test passes at each entry and its place, counted from i
abbrev pub entries : (ℕ → ℕ → Bool) → ℕ → List ℕ → Bool
entries f i [] = true
entries f i (x ∷ xs) = f i x && entries f (suc i) xs

from : (f : ℕ → ℕ → Bool) (xs : List ℕ) (i : ℕ) → entries f i xs ≡ true → (k : ℕ) → k < length xs → f (i + k) (get_or xs k 0) ≡ true
from f [] i t k h = absurd (not-suc-le-zero h)
from f (x ∷ xs) i t zero h = let e : i + 0 ≡ i = omega arith in rw e (left (f i x) (entries f (suc i) xs) t)
from f (x ∷ xs) i t (suc k) h =
    let e : i + suc k ≡ suc i + k = omega arith in
    rw e (from f xs (suc i) (right (f i x) t) k (le_of_suc-le-suc h))

pub entry : (f : ℕ → ℕ → Bool) (xs : List ℕ) → entries f 0 xs ≡ true → (k : ℕ) → k < length xs → f k (get_or xs k 0) ≡ true
entry f xs t k h = let e : 0 + k ≡ k = omega arith in rw e at (from f xs 0 t k h)
