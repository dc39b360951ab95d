-- The values of a function at consecutive numbers, as a list. Assumes nothing.
use Rattle.std.specs.Prelude.{ℕ, zero, suc, ◌+◌, ◌<◌, ◌≡◌, refl, [], ◌∷◌, ◌++◌, length, get_or}
use Rattle.std.proofs.Common.{ap, ◌∙◌, arith}
use Rattle.films.specs.Span.{span}

pub length-span : {A : Type 0} (f : ℕ → A) (i k : ℕ) → length (span f i k) ≡ k
length-span f i zero = refl
length-span f i (suc k) = ap suc (length-span f (suc i) k)

pub get_or-span : {A : Type 0} (f : ℕ → A) (i k j : ℕ) (d : A) → j < k → get_or (span f i k) j d ≡ f (i + j)
get_or-span f i zero j d h = absurd (omega arith)
get_or-span f i (suc k) zero d h = let e : i + 0 ≡ i = omega arith in rw e
get_or-span f i (suc k) (suc j) d h =
    let e : suc i + j ≡ i + suc j = omega arith in
    get_or-span f (suc i) k j d (omega arith) ∙ ap f e

-- one more at the end
pub span_more : {A : Type 0} (f : ℕ → A) (i k : ℕ) → span f i (suc k) ≡ span f i k ++ (f (i + k) ∷ [])
span_more f i zero = let e : i + 0 ≡ i = omega arith in rw e
span_more f i (suc k) =
    let e : suc i + k ≡ i + suc k = omega arith in
    ap (λ l. f i ∷ l) (span_more f (suc i) k ∙ rw e)
