-- What a reader gives, call after call. Assumes nothing.
use Rattle.std.specs.Prelude.{◌≡◌, refl, cond, List, [], ◌∷◌, ◌++◌, map, ℕ, zero, suc, ◌+◌, ◌<◌, ◌≤◌, length, replicate, eqb, Option, Some, None, Result, Ok, Err}
use Rattle.std.proofs.Common.{ap, ◌∙◌, arith, suc-add, zero-add, eq-eqb, ne_eqb}
use Rattle.laws.specs.Questions.{refusal, values_if}
use Rattle.limits.specs.Numbered.{answer_number}
use Rattle.films.specs.Layout.{Film}
use Rattle.films.proofs.SizeLaws.{length-sizes}
use Rattle.films.specs.Span.{span}
use Rattle.films.proofs.Span.{length-span}
use Rattle.films.specs.Questions.{verdict, films_in, entry_number, entry_rounds}
use Rattle.films.specs.Decode.{offset, film_at, films_of}
use Rattle.reader.specs.declared.cursor.Reader.{Reader}
use Rattle.reader.specs.Reader.{Step, start_of, entry_of, entry_at, moved, step_of, values_at, entry_values, Gives}
use Rattle.reader.specs.declared.cursor.Entry.{Entry}

-- ---- the paper's number and values of what a reader gives

entry-values : (fs : List Film) (p : ℕ) → entry_values (Ok (entry_at fs p)) ≡ values_at fs p
entry-values [] p = refl
entry-values (f ∷ fs) zero = refl
entry-values (f ∷ fs) (suc p) = entry-values fs p

pub gives : (s : List ℕ) (r : Reader) (e : Step) → e ≡ step_of s r → Gives s r e
unfolding step_of
gives s r e q =
    let fs = films_of s in
    let p = r.position in
    let film : Step = record { entry = Ok (entry_at fs p); reader = moved (entry_at fs p) r } in (
      q,
      record {
        numbered = ap (λ (t : Step). answer_number t.entry) q ∙ number r.refusal film refl;
        valued = ap (λ (t : Step). entry_values t.entry) q ∙ values r.refusal film (values_at fs p) (entry-values fs p);
      },
    )
  where
    number : (n : ℕ) (x : Step) → answer_number x.entry ≡ 0
        → answer_number (cond (eqb n 0) x (record { entry = Err n; reader = r })).entry ≡ refusal ((eqb n 0, n) ∷ [])
    number zero x h = h
    number (suc n) x h = rw (ne_eqb (suc n) 0 (λ e. omega arith))

    values : (n : ℕ) (x : Step) (vs : List ℕ) → entry_values x.entry ≡ vs
        → entry_values (cond (eqb n 0) x (record { entry = Err n; reader = r })).entry ≡ values_if (refusal ((eqb n 0, n) ∷ [])) vs
    values zero x vs h = h
    values (suc n) x vs h = rw (ne_eqb (suc n) 0 (λ e. omega arith))

-- ---- one call

-- entry i's film, as a reader gives it
abbrev stored : List ℕ → ℕ → Entry
stored s i = record { number = entry_number s i; rounds = entry_rounds s i }

entry-of : (s : List ℕ) (i : ℕ) → entry_of (film_at s i) ≡ stored s i
entry-of s i = rw (length-sizes s (offset s i) (entry_rounds s i))

span-here : (s : List ℕ) (i n p : ℕ) → p < n → entry_at (span (film_at s) i n) p ≡ Some (stored s (i + p))
span-here s i zero p h = absurd (omega arith)
span-here s i (suc n) zero h = let z : i + 0 ≡ i = omega arith in rw z (ap Some (entry-of s i))
span-here s i (suc n) (suc p) h = let z : i + suc p ≡ suc i + p = omega arith in rw z (span-here s (suc i) n p (omega arith))

span-end : (s : List ℕ) (i n p : ℕ) → n ≤ p → entry_at (span (film_at s) i n) p ≡ None
span-end s i zero p h = refl
span-end s i (suc n) zero h = absurd (omega arith)
span-end s i (suc n) (suc p) h = span-end s (suc i) n p (omega arith)

entry_here : (s : List ℕ) (p : ℕ) → p < films_in s → entry_at (films_of s) p ≡ Some (stored s p)
unfolding films_of
entry_here s p h = let z : 0 + p ≡ p = omega arith in rw z at (span-here s 0 (films_in s) p h)

entry-end : (s : List ℕ) (p : ℕ) → films_in s ≤ p → entry_at (films_of s) p ≡ None
unfolding films_of
entry-end s p h = span-end s 0 (films_in s) p h

pub step-refused : (s : List ℕ) (r : Reader) → (r.refusal ≡ 0 → ⊥) → step_of s r ≡ record { entry = Err r.refusal; reader = r }
unfolding step_of
step-refused s r n = rw (ne_eqb _ _ n)

pub step-film : (s : List ℕ) (r : Reader) → r.refusal ≡ 0 → r.position < films_in s
    → step_of s r
    ≡ record {
      entry = Ok (Some (stored s r.position));
      reader = record { refusal = r.refusal; position = r.position + 1 };
    }
unfolding step_of
step-film s r e h = rw (eq-eqb _ _ e, entry_here s r.position h)

pub step_end : (s : List ℕ) (r : Reader) → r.refusal ≡ 0 → films_in s ≤ r.position → step_of s r ≡ record { entry = Ok None; reader = r }
unfolding step_of
step_end s r e h = rw (eq-eqb _ _ e, entry-end s r.position h)

-- ---- call after call

-- a film, and no more, as a reader gives them
abbrev pub given : Film → Result (Option Entry) ℕ
given f = Ok (Some (entry_of f))

abbrev pub no_more : Result (Option Entry) ℕ
no_more = Ok None

-- what n calls give
abbrev pub run : ℕ → List ℕ → Reader → List (Result (Option Entry) ℕ)
run zero s r = []
run (suc n) s r = (step_of s r).entry ∷ run n s (step_of s r).reader

-- a reader at a position of an accepted file
abbrev pub placed : ℕ → Reader
placed p = record { refusal = 0; position = p }

run_end : (s : List ℕ) (p m : ℕ) → films_in s ≤ p → run m s (placed p) ≡ replicate m no_more
run_end s p zero h = refl
run_end s p (suc m) h = rw (step_end s (placed p) refl h) (ap (λ l. no_more ∷ l) (run_end s p m h))

run-from : (s : List ℕ) (p n m : ℕ) → p + n ≡ films_in s → run (n + m) s (placed p) ≡ map given (span (film_at s) p n) ++ replicate m no_more
run-from s p zero m h = rw zero-add (run_end s p m (omega arith))
run-from s p (suc n) m h =
    let z : p + 1 ≡ suc p = omega arith in
    let e = rw z at (step-film s (placed p) refl (omega arith)) in
    rw (suc-add, e, ← entry-of s p) (ap (λ l. given (film_at s p) ∷ l) (run-from s (suc p) n m (omega arith)))

-- of an accepted file: each film's number and round count in order, then no more, however often it is asked
pub reads_all : (s : List ℕ) → verdict s ≡ 0 → (m : ℕ)
    → run (length (films_of s) + m) s (start_of s) ≡ map given (films_of s) ++ replicate m no_more
unfolding films_of start_of
reads_all s e m = rw (length-span (film_at s) 0 (films_in s), e) (run-from s 0 (films_in s) m (omega arith))

run-refused : (s : List ℕ) (r : Reader) (m : ℕ) → (r.refusal ≡ 0 → ⊥) → run m s r ≡ replicate m (Err r.refusal)
run-refused s r zero n = refl
run-refused s r (suc m) n = rw (step-refused s r n) (ap (λ l. Err r.refusal ∷ l) (run-refused s r m n))

-- of a refused file: its number, however often it is asked
pub reads-refused : (s : List ℕ) → (verdict s ≡ 0 → ⊥) → (m : ℕ) → run m s (start_of s) ≡ replicate m (Err (verdict s))
unfolding start_of
reads-refused s n m = run-refused s (start_of s) m n
