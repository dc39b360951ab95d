-- The size of a round by the file's questions and the lookup's answer. Assumes nothing.
use Rattle.std.specs.Prelude.{◌≡◌, refl, Bool, true, false, cond, List, [], ◌∷◌, ℕ, zero, suc, length, get_or, eqb, ltb, Option, Some, None, Result, Ok, Err}
use Rattle.std.proofs.Common.{ap, ◌∙◌, arith, eq-eqb, ne_eqb}
use Rattle.laws.specs.Questions.{refusal, values_if, Answers}
use Rattle.limits.specs.Refusals.{no_film, number, number_of}
use Rattle.limits.specs.Numbered.{numbered, answer_number}
use Rattle.limits.specs.declared.refusals.Refusal.{Refusal}
use Rattle.films.specs.Layout.{in_file, sizes_of}
use Rattle.films.specs.Sizes.{sizes}
use Rattle.films.proofs.SizeLaws.{length-sizes}
use Rattle.films.specs.Questions.{verdict}
use Rattle.films.specs.Decode.{films_of}
use Rattle.films.specs.Lookup.{FoundAt}
use Rattle.reader.specs.Summary.{summary_questions}
use Rattle.reader.specs.Rounds.{size_in, round_size_of, round_values}

pub of-refused : (s : List ℕ) (k i : ℕ) → (verdict s ≡ 0 → ⊥) → round_size_of s k i ≡ Err (verdict s)
unfolding round_size_of summary_questions
of-refused s k i n = simp (ne_eqb _ _ n)

pub of-missing : (s : List ℕ) (k i : ℕ) → verdict s ≡ 0 → in_file (films_of s) k ≡ false → round_size_of s k i ≡ Err no_film
unfolding round_size_of summary_questions
of-missing s k i e f = simp (eq-eqb _ _ e, f)

pub of-found : (s : List ℕ) (k i at n : ℕ) → verdict s ≡ 0 → FoundAt s k at n
    → round_size_of s k i ≡ Ok (cond (ltb i n) (Some (get_or (sizes s at n) i 0)) None)
unfolding round_size_of summary_questions
of-found s k i at n e f = simp (eq-eqb _ _ e, f.inside, f.are, length-sizes)

-- the paper's number and values of the answer
pub round-answers : (s : List ℕ) (k i : ℕ) (r : Result (Option ℕ) ℕ) → r ≡ round_size_of s k i
    → Answers (summary_questions s k) (size_in (sizes_of (films_of s) k) i) (answer_number r) (round_values r)
unfolding round_size_of
round-answers s k i r e =
    record {
      numbered = ap answer_number e ∙ number (refusal (summary_questions s k)) (ltb i (length xs));
      valued = ap round_values e ∙ values (refusal (summary_questions s k)) (ltb i (length xs));
    }
  where
    xs : List ℕ
    xs = sizes_of (films_of s) k

    number : (n : ℕ) (b : Bool) → answer_number (cond (eqb n 0) (Ok (cond b (Some (get_or xs i 0)) None)) (Err n)) ≡ n
    number zero true = refl
    number zero false = refl
    number (suc n) b = rw (ne_eqb (suc n) 0 (λ e. omega arith))

    values : (n : ℕ) (b : Bool)
        → round_values (cond (eqb n 0) (Ok (cond b (Some (get_or xs i 0)) None)) (Err n)) ≡ values_if n (cond b (get_or xs i 0 ∷ []) [])
    values zero true = refl
    values zero false = refl
    values (suc n) b = rw (ne_eqb (suc n) 0 (λ e. omega arith))

-- .. of an answer as the code gives it
pub round-said : (s : List ℕ) (k i : ℕ) (r : Result (Option ℕ) Refusal) → numbered r ≡ round_size_of s k i
    → Answers (summary_questions s k) (size_in (sizes_of (films_of s) k) i) (number r) (round_values r)
round-said s k i (Ok (Some x)) e = round-answers s k i (Ok (Some x)) e
round-said s k i (Ok None) e = round-answers s k i (Ok None) e
round-said s k i (Err f) e = round-answers s k i (Err (number_of f)) e
