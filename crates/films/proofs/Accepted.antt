-- What an accepted file's bytes are, number by number: the questions all hold. Assumes nothing.
use Rattle.std.specs.Prelude.{ℕ, zero, suc, ◌+◌, ◌*◌, ◌<◌, ◌≤◌, ◌≡◌, refl, Bool, true, false, cond, List, [], ◌∷◌, ◌++◌, length, leb}
use Rattle.std.proofs.Common.{◌∙◌, ⊎_elim, arith, eq-or-lt_of_le, leb-true, eqb-true, le-leb, eq-eqb}
use Rattle.laws.specs.Tests.{left, right}
use Rattle.laws.specs.Questions as questions
use Rattle.laws.specs.Questions.{Question, refusal, refusal-append, both-held}
use Rattle.limits.specs.Bounds.{max_films}
use Rattle.limits.specs.Refusals.{film_order, round_count}
use Rattle.films.specs.Questions.{films_in, count_at, sizes_in, sizes_at, head_questions, exceeds, few_rounds, entry_questions, size_questions, file_questions, verdict}
use Rattle.films.specs.Accepted.{Accepted, Holds, Numbered, Passes, SizesHold}

-- so a "no" gives a number, and not 0
pub numbered : (qs : List Question) → Numbered qs → questions.Numbered qs
numbered [] n = tt
numbered (q ∷ qs) n = (λ _. n.0, numbered qs n.1)

pub after : (qs rs : List Question) → questions.Numbered qs → refusal qs ≡ 0 → refusal (qs ++ rs) ≡ refusal rs
after qs rs n e = refusal-append qs rs n ∙ rw e

held : (b : Bool) (k n : ℕ) → (b ≡ false → 0 < k) → cond b n k ≡ 0 → (b ≡ true) × (n ≡ 0)
held true k n p e = (refl, e)
held false k n p e = absurd (omega (arith, p refl))

pub holds : (qs : List Question) → questions.Numbered qs → refusal qs ≡ 0 → Holds qs
holds [] n e = tt
holds (q ∷ qs) n e = let h = held q.0 q.1 (refusal qs) n.0 e in (h.0, holds qs n.1 h.1)

-- ---- the three parts of the file's questions

pub head-numbered : (s : List ℕ) → Numbered (head_questions s)
unfolding head_questions
head-numbered s = (omega arith, (omega arith, (omega arith, tt)))

pub entries-numbered : (s : List ℕ) (i k : ℕ) → Numbered (entry_questions s i k)
entries-numbered s i zero = tt
entries-numbered s i (suc k) = (omega arith, (omega arith, entries-numbered s (suc i) k))

pub entries-held : (s : List ℕ) (i k : ℕ) → refusal (entry_questions s i k) ≡ 0 → (j : ℕ) → i ≤ j → j < i + k → Passes s j
entries-held s i zero e j p q = absurd (omega arith)
entries-held s i (suc k) e j p q =
    let h = both-held ((exceeds s i, film_order) ∷ (few_rounds s i, round_count) ∷ []) (entry_questions s (suc i) k) (λ _. omega arith, (λ _. omega arith, tt)) e in
    let g = holds ((exceeds s i, film_order) ∷ (few_rounds s i, round_count) ∷ []) (λ _. omega arith, (λ _. omega arith, tt)) h.0 in
    ⊎_elim (λ z. rw (← z) (g.0, g.1.0)) (λ z. entries-held s (suc i) k h.1 j z (omega arith)) (eq-or-lt_of_le p)

entries_none : (s : List ℕ) (i k : ℕ) → ((j : ℕ) → i ≤ j → j < i + k → Passes s j) → refusal (entry_questions s i k) ≡ 0
entries_none s i zero f = refl
entries_none s i (suc k) f =
    let p = f i (omega arith) (omega arith) in
    rw (p.0, p.1) (entries_none s (suc i) k (λ j l m. f j (omega arith) (omega arith)))

head-held : (s : List ℕ) → refusal (head_questions s) ≡ 0 → (1 ≤ films_in s) × (films_in s ≤ max_films)
unfolding head_questions
head-held s e =
    let h = (holds (head_questions s) (numbered (head_questions s) (head-numbered s)) e).1.0 in
    (leb-true _ _ (left (leb 1 (films_in s)) (leb (films_in s) max_films) h), leb-true _ _ (right (leb 1 (films_in s)) h))

sizes-numbered : (s : List ℕ) → Numbered (size_questions s)
unfolding size_questions
sizes-numbered s = (omega arith, (omega arith, (omega arith, (omega arith, (omega arith, tt)))))

sizes-held : (s : List ℕ) → refusal (size_questions s) ≡ 0 → SizesHold s
unfolding size_questions
sizes-held s e =
    let h = holds (size_questions s) (numbered (size_questions s) (sizes-numbered s)) e in
    (eqb-true _ _ h.1.0, (h.1.1.1.0, eqb-true _ _ h.1.1.1.1.0))

pub accepted : (s : List ℕ) → verdict s ≡ 0 → Accepted s
unfolding verdict file_questions
accepted s e =
    let h = both-held (head_questions s) (entry_questions s 0 (films_in s) ++ size_questions s) (numbered (head_questions s) (head-numbered s)) e in
    let g = both-held (entry_questions s 0 (films_in s)) (size_questions s) (numbered (entry_questions s 0 (films_in s)) (entries-numbered s 0 (films_in s))) h.1 in
    let c = head-held s h.0 in
    let z = sizes-held s g.1 in
    record {
      some = c.0;
      few = c.1;
      passes = λ i l. entries-held s 0 (films_in s) g.0 i (omega arith) (omega arith);
      total = z.0;
      small = z.1.0;
      ends = z.1.1;
    }

head-none : (s : List ℕ) → Accepted s → refusal (head_questions s) ≡ 0
unfolding head_questions
head-none s a =
    let h : 2 ≤ length s = omega (arith, a.ends) in
    let g : count_at s ≤ length s = omega (arith, a.ends) in
    simp (le-leb _ _ h, le-leb _ _ a.some, le-leb _ _ a.few, le-leb _ _ g)

sizes-none : (s : List ℕ) → Accepted s → refusal (size_questions s) ≡ 0
unfolding size_questions
sizes-none s a =
    let h : sizes_at s ≤ length s = omega (arith, a.ends) in
    let g : sizes_at s + 4 * sizes_in s ≤ length s = omega (arith, a.ends) in
    simp (le-leb _ _ h, eq-eqb _ _ a.total, le-leb _ _ g, a.small, eq-eqb _ _ a.ends)

pub acceptance : (s : List ℕ) → Accepted s → verdict s ≡ 0
unfolding verdict file_questions
acceptance s a =
    after (head_questions s) (entry_questions s 0 (films_in s) ++ size_questions s) (numbered (head_questions s) (head-numbered s)) (head-none s a)
    ∙ after (entry_questions s 0 (films_in s)) (size_questions s) (numbered (entry_questions s 0 (films_in s)) (entries-numbered s 0 (films_in s)))
    (entries_none s 0 (films_in s) (λ i l m. a.passes i (omega arith)))
    ∙ sizes-none s a
