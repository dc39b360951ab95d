-- The file's verdict by the first of its three groups of questions that says no. Assumes nothing.
use Rattle.std.specs.Prelude.{ℕ, ◌≤◌, ◌≡◌, List, ◌++◌, length, leb}
use Rattle.std.proofs.Common.{sym, ◌∙◌, leb-true}
use Rattle.laws.specs.Tests.{right}
use Rattle.laws.specs.Questions.{refusal}
use Rattle.limits.specs.Bounds.{max_films}
use Rattle.limits.specs.Refusals.{number_of}
use Rattle.limits.specs.declared.refusals.Refusal.{Refusal}
use Rattle.limits.proofs.Numbers.{number-not_zero}
use Rattle.films.specs.Questions.{films_in, count_at, head_questions, entry_questions, size_questions, file_questions, verdict}
use Rattle.films.proofs.Accepted.{numbered, after, holds, head-numbered, entries-numbered}
use Rattle.films.proofs.Laws.{stands}

-- past the head the entries answer, and past these the sizes
past-head : (s : List ℕ) → refusal (head_questions s) ≡ 0 → verdict s ≡ refusal (entry_questions s 0 (films_in s) ++ size_questions s)
unfolding verdict file_questions
past-head s h = after (head_questions s) (entry_questions s 0 (films_in s) ++ size_questions s) (numbered (head_questions s) (head-numbered s)) h

pub last-answers : (s : List ℕ) → refusal (head_questions s) ≡ 0 → refusal (entry_questions s 0 (films_in s)) ≡ 0 → verdict s ≡ refusal (size_questions s)
last-answers s h e = past-head s h ∙ after (entry_questions s 0 (films_in s)) (size_questions s) (numbered (entry_questions s 0 (films_in s)) (entries-numbered s 0 (films_in s))) e

pub head-refused : (s : List ℕ) (e : Refusal) → number_of e ≡ refusal (head_questions s) → number_of e ≡ verdict s
unfolding verdict file_questions
head-refused s e q = sym (stands (head_questions s) (entry_questions s 0 (films_in s) ++ size_questions s) (number_of e) (sym q) (number-not_zero e))

pub entries-refused : (s : List ℕ) (e : Refusal) → refusal (head_questions s) ≡ 0 → number_of e ≡ refusal (entry_questions s 0 (films_in s)) → number_of e ≡ verdict s
entries-refused s e h q = sym (past-head s h ∙ stands (entry_questions s 0 (films_in s)) (size_questions s) (number_of e) (sym q) (number-not_zero e))

-- what holds once the head's questions do
pub record Headed (s : List ℕ) : Type 0 where
  pub few : films_in s ≤ max_films
  pub there : count_at s ≤ length s

pub headed : (s : List ℕ) → 0 ≡ refusal (head_questions s) → Headed s
unfolding head_questions
headed s e =
    let h = holds (head_questions s) (numbered (head_questions s) (head-numbered s)) (sym e) in
    record {
      few = leb-true _ _ (right (leb 1 (films_in s)) h.1.0);
      there = leb-true _ _ h.1.1.0;
    }
