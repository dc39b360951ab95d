-- Sizes where they stand: how many, which one, and a run of them cut in two. Assumes nothing.
use Rattle.std.specs.Prelude.{ℕ, zero, suc, ◌+◌, ◌*◌, ◌<◌, ◌≡◌, refl, Bool, ◌&&◌, List, ◌∷◌, ◌++◌, length, get_or, leb}
use Rattle.std.specs.List.{list_all, range_with_len}
use Rattle.std.proofs.Common.{ap, ◌∙◌, arith}
use Rattle.laws.specs.Tests.{all}
use Rattle.limits.specs.Bounds.{max_size}
use Rattle.films.specs.Sizes.{size, sizes}
use Rattle.films.specs.Questions.{small_sizes}

pub length-sizes : (s : List ℕ) (at n : ℕ) → length (sizes s at n) ≡ n
length-sizes s at zero = refl
length-sizes s at (suc n) = ap suc (length-sizes s (at + 4) n)

pub get_or-sizes : (s : List ℕ) (at n i : ℕ) → i < n → get_or (sizes s at n) i 0 ≡ size s (at + 4 * i)
get_or-sizes s at zero i h = absurd (omega arith)
get_or-sizes s at (suc n) zero h = let e : at + 4 * 0 ≡ at = omega arith in ap (size s) (omega arith)
get_or-sizes s at (suc n) (suc i) h = get_or-sizes s (at + 4) n i (omega arith) ∙ ap (size s) (omega arith)

pub sizes-cut : (s : List ℕ) (at n m : ℕ) → sizes s at (n + m) ≡ sizes s at n ++ sizes s (at + 4 * n) m
sizes-cut s at zero m =
    let e : 0 + m ≡ m = omega arith in
    let f : at + 4 * 0 ≡ at = omega arith in
    rw (e, f)
sizes-cut s at (suc n) m =
    let e : suc n + m ≡ suc (n + m) = omega arith in
    let f : at + 4 * suc n ≡ (at + 4) + 4 * n = omega arith in
    rw (e, f) (ap (λ l. size s at ∷ l) (sizes-cut s (at + 4) n m))

-- the sizes whose bytes start at an offset, tested by their number
pub sizes_test : (s : List ℕ) (at k n : ℕ) (f : ℕ → Bool) → list_all (λ i. f (size s (at + 4 * i))) (range_with_len k n) ≡ all f (sizes s (at + 4 * k) n)
sizes_test s at k zero f = refl
sizes_test s at k (suc n) f =
    let e : at + 4 * (k + 1) ≡ at + 4 * k + 4 = omega arith in
    ap (λ b. f (size s (at + 4 * k)) && b) (rw e at (sizes_test s at (k + 1) n f))

pub small_test : (s : List ℕ) (at n : ℕ) → list_all (λ i. leb (size s (at + 4 * i)) max_size) (range_with_len 0 n) ≡ small_sizes s at n
small_test s at n = let e : at + 4 * 0 ≡ at = omega arith in rw e at (sizes_test s at 0 n (λ x. leb x max_size))
