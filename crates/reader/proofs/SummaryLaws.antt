-- A summary by the questions' answers; the paper's number and values of it. Assumes nothing.
use Rattle.std.specs.Prelude.{◌≡◌, refl, true, false, cond, eqb, Result, Ok, Err}
use Rattle.std.proofs.Math.Path.{ap}
use Rattle.std.proofs.Common.{◌∙◌, arith, eq-eqb, ne_eqb}
use mathlib.Core.List.{List}
use Prim.Native.Nat.{ℕ, zero, suc, ◌+◌, ◌*◌, ◌-◌, ◌<◌, ◌≤◌, ◌/◌, max}
use Rattle.laws.specs.Questions.{refusal, values_if, Answers}
use Rattle.laws.specs.Sums.{sum, largest}
use Rattle.limits.specs.Bounds.{max_size}
use Rattle.limits.specs.Refusals.{no_film, number, number_of}
use Rattle.limits.specs.declared.refusals.Refusal.{Refusal}
use Rattle.limits.specs.Numbered.{numbered, answer_number}
use Rattle.films.specs.Layout.{in_file, sizes_of}
use Rattle.films.specs.Sizes.{size, sizes, Stored}
use Rattle.films.proofs.SizeLaws.{get_or-sizes, length-sizes}
use Rattle.films.specs.Questions.{verdict}
use Rattle.films.specs.Decode.{films_of}
use Rattle.reader.specs.Summary.{mean, figures, figures_of, summary_questions, summary_of, summary_values}
use Rattle.reader.specs.declared.summary.Figures.{Figures}

module _ (s : List ℕ) (k : ℕ) where
  pub summary-refused : (verdict s ≡ 0 → ⊥) → summary_of s k ≡ Err (verdict s)
  unfolding summary_of summary_questions
  summary-refused n = simp (ne_eqb _ _ n)

  pub summary-missing : verdict s ≡ 0 → in_file (films_of s) k ≡ false → summary_of s k ≡ Err no_film
  unfolding summary_of summary_questions
  summary-missing e f = simp (eq-eqb _ _ e, f)

  pub summary-found : verdict s ≡ 0 → in_file (films_of s) k ≡ true → summary_of s k ≡ Ok (figures_of (sizes_of (films_of s) k))
  unfolding summary_of summary_questions
  summary-found e f = simp (eq-eqb _ _ e, f)

  -- the paper's number and values of it
  pub summary-answers : (r : Result Figures ℕ) → r ≡ summary_of s k
      → Answers (summary_questions s k) (figures (sizes_of (films_of s) k)) (answer_number r) (summary_values r)
  unfolding summary_of figures_of
  summary-answers r e =
      record {
        numbered = ap answer_number e ∙ number (refusal (summary_questions s k));
        valued = ap summary_values e ∙ values (refusal (summary_questions s k));
      }
    where
      xs : List ℕ
      xs = sizes_of (films_of s) k

      number : (n : ℕ) → answer_number (cond (eqb n 0) (Ok (figures_of xs)) (Err n)) ≡ n
      number zero = refl
      number (suc n) = rw (ne_eqb (suc n) 0 (λ e. omega arith))

      values : (n : ℕ) → summary_values (cond (eqb n 0) (Ok (figures_of xs)) (Err n)) ≡ values_if n (figures xs)
      values zero = refl
      values (suc n) = rw (ne_eqb (suc n) 0 (λ e. omega arith))

-- .. of an answer as the code gives it
pub summary-said : (s : List ℕ) (k : ℕ) (r : Result Figures Refusal) → numbered r ≡ summary_of s k
    → Answers (summary_questions s k) (figures (sizes_of (films_of s) k)) (number r) (summary_values r)
summary-said s k (Ok f) e = summary-answers s k (Ok f) e
summary-said s k (Err f) e = summary-answers s k (Err (number_of f)) e

-- ---- a turn of the loop over a film's sizes

-- i sizes are added up
pub record Adding (s : List ℕ) (at n bytes most i : ℕ) : Type 0 where
  pub within : i ≤ n
  pub bound : bytes ≤ max_size * i
  pub sum_is : sum (sizes s at n) ≡ bytes + sum (sizes s (at + 4 * i) (n - i))
  pub largest-is : largest (sizes s at n) ≡ max most (largest (sizes s (at + 4 * i) (n - i)))

pub adding-none : (s : List ℕ) (at n : ℕ) → Adding s at n 0 0 0
adding-none s at n =
    let e : at + 4 * 0 ≡ at = omega arith in
    let f : n - 0 ≡ n = omega arith in
    record {
      within = omega arith;
      bound = omega arith;
      sum_is = rw (e, f) (omega arith);
      largest-is = rw (e, f) (omega arith);
    }

pub adding-small : (s : List ℕ) (at n i : ℕ) → Stored s at n → i < n → size s (at + 4 * i) ≤ max_size
adding-small s at n i v h = omega (arith, v.small i, get_or-sizes s at n i h)

pub adding-more : (s : List ℕ) (at n bytes most i x y : ℕ) → Stored s at n → Adding s at n bytes most i → i < n → x ≡ size s (at + 4 * i) → y ≡ max most x
    → Adding s at n (bytes + x) y (i + 1)
adding-more s at n bytes most i x y v a h e g =
    let z : n - i ≡ suc (n - (i + 1)) = omega arith in
    let w : at + 4 * (i + 1) ≡ at + 4 * i + 4 = omega arith in
    let t = rw z at a.sum_is in
    let l = rw z at a.largest-is in
    record {
      within = omega arith;
      bound = omega (arith, a.bound, adding-small s at n i v h);
      sum_is = rw w (omega arith);
      largest-is = rw w (omega arith);
    }

pub adding-all : (s : List ℕ) (at n bytes most i m : ℕ) → Adding s at n bytes most i → n ≤ i → m ≡ bytes / n → record { total = bytes; largest = most; mean = m } ≡ figures_of (sizes s at n)
unfolding figures_of mean
adding-all s at n bytes most i m a h e =
    let z : n - i ≡ 0 = omega arith in
    let t = rw z at a.sum_is in
    let l = rw z at a.largest-is in
    let p : sum (sizes s at n) ≡ bytes = omega arith in
    let q : largest (sizes s at n) ≡ most = omega arith in
    rw (length-sizes s at n, p, q, e)
