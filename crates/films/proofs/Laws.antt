-- An entry's questions, and the turns of the loop over the entries. Assumes nothing.
use Rattle.std.specs.Prelude.{ℕ, zero, suc, ◌+◌, ◌*◌, ◌-◌, ◌<◌, ◌≤◌, ◌≡◌, refl, true, false, List, [], ◌∷◌, ◌++◌, Option, Some, None, leb}
use Rattle.std.proofs.Common.{sym, ap, ◌∙◌, arith, add-one, leb-true}
use Rattle.laws.specs.Tests.{right}
use Rattle.laws.specs.Questions.{Question, refusal, refusal-stands}
use Rattle.limits.specs.Bounds.{max_films, max_rounds}
use Rattle.limits.specs.Refusals.{film_order, round_count}
use Rattle.films.specs.Span.{span}
use Rattle.films.specs.Questions.{films_in, entry_number, entry_rounds, exceeds, few_rounds, rounds_in_range, entry_questions}
use Rattle.films.specs.Decode.{offset}
use Rattle.films.specs.Catalogue.{entry_of, listed, rises}
use Rattle.films.specs.declared.file.Entry.{Entry}
use Rattle.films.proofs.Span.{span_more}

-- ---- an entry's questions

-- the number before entry i
pub before_at : List ℕ → ℕ → Option ℕ
before_at s zero = None
before_at s (suc i) = Some (entry_number s i)

pub before-none : (s : List ℕ) → None ≡ before_at s 0
unfolding before_at
before-none s = refl

pub before_more : (s : List ℕ) (i x : ℕ) → x ≡ entry_number s i → Some x ≡ before_at s (i + 1)
unfolding before_at
before_more s i x e = rw (add-one i, e)

exceeds-rises : (s : List ℕ) (i : ℕ) → rises (before_at s i) (entry_number s i) ≡ exceeds s i
unfolding before_at exceeds
exceeds-rises s zero = refl
exceeds-rises s (suc i) = refl

-- a number that is not 0 stands
pub stands : (qs rs : List Question) (v : ℕ) → refusal qs ≡ v → (v ≡ 0 → ⊥) → refusal (qs ++ rs) ≡ v
stands qs rs zero e n = absurd (n refl)
stands qs rs (suc v) e n = refusal-stands qs rs v e

-- ---- the loop over the entries

-- the first i entries are read, and the questions of the others are left
pub record Reading (s : List ℕ) (count : ℕ) (films : List Entry) (at : ℕ) (before : Option ℕ) (i : ℕ) : Type 0 where
  pub films-are : films ≡ span (entry_of s) 0 i
  pub at-is : at ≡ offset s i
  pub bound : at ≤ 6 + 4 * max_films + 4 * (max_rounds * i)
  pub before-is : before ≡ before_at s i
  pub rest : refusal (entry_questions s 0 count) ≡ refusal (entry_questions s i (count - i))

pub reading-none : (s : List ℕ) (count : ℕ) → count ≡ films_in s → count ≤ max_films → Reading s count [] (6 + 4 * count) None 0
reading-none s count c f = record {
  films-are = refl;
  at-is = omega arith;
  bound = omega arith;
  before-is = before-none s;
  rest = let e : count - 0 ≡ count = omega arith in rw e;
}

few-rounds : (n : ℕ) → rounds_in_range n ≡ true → n ≤ max_rounds
unfolding rounds_in_range
few-rounds n e = leb-true _ _ (right (leb 1 n) e)

module _ (s : List ℕ) (count : ℕ) (films : List Entry) (at : ℕ) (before : Option ℕ) (i : ℕ)
    (r : Reading s count films at before i) (l : i < count) (film n : ℕ)
    (x : film ≡ entry_number s i) (y : n ≡ entry_rounds s i) where
  left-to-ask : refusal (entry_questions s 0 count) ≡ refusal (entry_questions s i (suc (count - (i + 1))))
  left-to-ask = let z : count - i ≡ suc (count - (i + 1)) = omega arith in r.rest ∙ rw z

  exceeds-is : rises before film ≡ exceeds s i
  exceeds-is = rw (x, r.before-is) (exceeds-rises s i)

  pub order-refused : rises before film ≡ false → refusal (entry_questions s 0 count) ≡ film_order
  order-refused e = let q : exceeds s i ≡ false = sym exceeds-is ∙ e in left-to-ask ∙ rw q

  pub count-refused : rises before film ≡ true → rounds_in_range n ≡ false → refusal (entry_questions s 0 count) ≡ round_count
  count-refused e f =
      let q : exceeds s i ≡ true = sym exceeds-is ∙ e in
      let w : few_rounds s i ≡ false = rw (← y) f in
      left-to-ask ∙ rw (q, w)

  pub reading-more : rises before film ≡ true → rounds_in_range n ≡ true
      → Reading s count (films ++ record { number = film; rounds = n; at = at } ∷ []) (at + 4 * n) (Some film) (i + 1)
  reading-more e f =
      let q : exceeds s i ≡ true = sym exceeds-is ∙ e in
      let w : few_rounds s i ≡ true = rw (← y) f in
      let z : 0 + i ≡ i = omega arith in
      record {
        films-are = rw (r.films-are, x, y, r.at-is, add-one i) (sym (rw z at (span_more (entry_of s) 0 i)));
        at-is = let e : i + 1 ≡ suc i = add-one i in rw e (omega (arith, r.at-is));
        bound = omega (arith, few-rounds n f, r.bound);
        before-is = before_more s i film x;
        rest = left-to-ask ∙ rw (q, w, add-one i);
      }

pub reading-all : (s : List ℕ) (count : ℕ) (films : List Entry) (at : ℕ) (before : Option ℕ) (i : ℕ)
    → Reading s count films at before i → count ≡ films_in s → i ≡ count → (films ≡ listed s) × (refusal (entry_questions s 0 count) ≡ 0)
unfolding listed
reading-all s count films at before i r c e =
    let z : count - i ≡ 0 = omega arith in
    let k : i ≡ films_in s = e ∙ c in
    (r.films-are ∙ ap (span (entry_of s) 0) k, r.rest ∙ rw z)
