-- The catalogue of a file: what later calls look films up in, without reading the file again.
use Rattle.std.specs.Prelude.{◌≡◌, refl, List, [], ◌∷◌, ℕ, zero, suc, ◌+◌, ◌-◌, ◌*◌, length, sum_by}
use Rattle.std.proofs.Common.{sym, ap, ◌∙◌, arith, eq-eqb}
use Rattle.std.proofs.lemmas.List.Sums.{sum_by-append}
use Rattle.films.specs.Span.{span}
use Rattle.films.specs.Questions.{verdict, films_in, rounds_before, sizes_in, sizes_at, small_sizes}
use Rattle.films.specs.Sizes.{size}
use Rattle.films.specs.Catalogue.{catalogue_of, entry_of, listed}
use Rattle.films.specs.declared.file.Entry.{Entry}
use Rattle.films.proofs.Span.{length-span, span_more}

pub listed-count : (s : List ℕ) → length (listed s) ≡ films_in s
unfolding listed
listed-count s = length-span (entry_of s) 0 (films_in s)

rounds_of_span : (s : List ℕ) (n : ℕ) → sum_by (λ film. film.rounds) (span (entry_of s) 0 n) ≡ rounds_before s n
rounds_of_span s zero = refl
rounds_of_span s (suc n) =
    let z : 0 + n ≡ n = omega arith in
    let f : Entry → ℕ = λ film. film.rounds in
    rw (span_more (entry_of s) 0 n) (sum_by-append f (span (entry_of s) 0 n) (entry_of s (0 + n) ∷ []) ∙ rw (z, rounds_of_span s n) (omega arith))

pub listed-rounds : (s : List ℕ) → sum_by (λ film. film.rounds) (listed s) ≡ rounds_before s (films_in s)
unfolding listed
listed-rounds s = rounds_of_span s (films_in s)

-- an accepted file's catalogue has its films
pub catalogue-listed : (s : List ℕ) → verdict s ≡ 0 → catalogue_of s ≡ listed s
unfolding catalogue_of
catalogue-listed s e = rw (eq-eqb _ _ e)

-- what the questions after the entries are asked of
pub record Asked (s : List ℕ) (films : List Entry) (total count : ℕ) : Type 0 where
  pub at : 6 + 4 * length films ≡ sizes_at s
  pub sum : total ≡ rounds_before s (films_in s)
  pub second : count ≡ sizes_in s

pub asked : (s : List ℕ) (films : List Entry) (total count : ℕ) → films ≡ listed s → total ≡ sum_by (λ film. film.rounds) films
    → count ≡ size s (6 + 4 * length films - 4) → Asked s films total count
asked s films total count e t c =
    let n : length films ≡ films_in s = ap length e ∙ listed-count s in
    let f : List Entry → ℕ = sum_by (λ film. film.rounds) in
    record {
      at = omega arith;
      sum = t ∙ ap f e ∙ listed-rounds s;
      second = c ∙ ap (size s) (omega arith);
    }

-- .. and the sizes that are tested are the file's
pub small-asked : (s : List ℕ) (films : List Entry) (total count : ℕ) → Asked s films total count → count ≡ total
    → small_sizes s (6 + 4 * length films) total ≡ small_sizes s (sizes_at s) (sizes_in s)
small-asked s films total count a e =
    let q : total ≡ sizes_in s = sym e ∙ a.second in
    rw (a.at, q)
