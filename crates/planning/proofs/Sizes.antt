-- The sum and the largest of a list's first places, one place more. Assumes nothing.
use Rattle.std.specs.Prelude.{◌≡◌, List, [], ◌∷◌, ℕ, zero, suc, ◌+◌, ◌<◌, max, length, get_or, take}
use Rattle.std.proofs.Common.{arith}
use Rattle.laws.specs.Sums.{sum, largest}

pub sum-take : (xs : List ℕ) (i : ℕ) → i < length xs → sum (take (i + 1) xs) ≡ sum (take i xs) + get_or xs i 0
sum-take [] i h = absurd (omega arith)
sum-take (x ∷ xs) zero h = omega arith
sum-take (x ∷ xs) (suc i) h = let e : suc i + 1 ≡ suc (i + 1) = omega arith in rw e (omega (arith, sum-take xs i (omega arith)))

pub largest-take : (xs : List ℕ) (i : ℕ) → i < length xs → largest (take (i + 1) xs) ≡ max (largest (take i xs)) (get_or xs i 0)
largest-take [] i h = absurd (omega arith)
largest-take (x ∷ xs) zero h = omega arith
largest-take (x ∷ xs) (suc i) h = let e : suc i + 1 ≡ suc (i + 1) = omega arith in rw e (omega (arith, largest-take xs i (omega arith)))
