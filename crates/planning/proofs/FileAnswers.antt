-- The answers of a call by what the film file says of the film. Assumes nothing.
use Rattle.std.specs.Prelude.{◌≡◌, refl, Option, Some, None, IfSome, IfNone, Bool, true, false, cond, List, [], ◌∷◌, ℕ, zero, suc, Result, Ok, Err, IsErr, length, eqb, leb}
use Rattle.std.specs.Option.{ok_or}
use Rattle.std.specs.Result.{IsErrAnd}
use Rattle.std.proofs.Common.{sym, ap, ◌∙◌, true≢false, arith, eq-eqb, ne_eqb, leb-true}
use Rattle.laws.specs.Questions.{Question, refusal, refusal-held, values_if, Answers}
use Rattle.laws.specs.Sums.{largest}
use Rattle.limits.specs.Bounds.{max_prefetch}
use Rattle.limits.specs.declared.refusals.Refusal.{Refusal}
use Rattle.limits.specs.declared.refusals.Refusal.TheVariants.{NoFilm}
use Rattle.limits.specs.Refusals.{no_film, prefetch_bound, cap_bound, number_of}
use Rattle.limits.specs.Numbered.{numbered, answer_number}
use Rattle.limits.proofs.Numbers.{number-not_zero}
use Rattle.films.specs.Layout.{in_file, sizes_of}
use Rattle.films.specs.Sizes.{sizes}
use Rattle.films.specs.Decode.{films_of}
use Rattle.films.specs.Questions.{verdict, file}
use Rattle.films.specs.declared.film.Sizes.{Sizes}
use Rattle.films.specs.Lookup.{FoundAt}
use Rattle.retrieval.specs.Schedule.{sends}
use Rattle.retrieval.specs.LeastReserve.{Least, least_reserve}
use Rattle.retrieval.proofs.ReserveLaws.{least_reserve-least}
use Rattle.planning.specs.Answers.{answer_by, answer_values, schedule_questions, scheduled, schedule_out, plan_questions, plan_totals, Planned, cap_questions, reserve_questions, reserved}
use Rattle.planning.proofs.AnswerLaws.{refused, unwritten}

-- ---- a film of the file, where it is asked for by `ok_or`

pub missing-film : {P : Type 0} (found : Option Sizes) (e : Refusal) → Err e ≡ ok_or found NoFilm → IfNone found P → P × (number_of e ≡ no_film)
missing-film None e q h = (h, let x : e ≡ NoFilm = cc in ap number_of x)
missing-film (Some z) e q h = let n : ◌≡◌ {A = ℕ} 0 1 = cc in absurd (omega arith)

pub found-film : (s : List ℕ) (k : ℕ) (found : Option Sizes) (z : Sizes) → Ok z ≡ ok_or found NoFilm → IfSome found (λ z. FoundAt s k z.at z.rounds)
    → IfSome found (λ z. z.file.now ≡ s) → FoundAt s k z.at z.rounds × (z.file.now ≡ s)
found-film s k None z q f b = let n : ◌≡◌ {A = ℕ} 0 1 = cc in absurd (omega arith)
found-film s k (Some y) z q f b = let x : z ≡ y = cc in rw x (f, b)

-- ---- the file's question and the film's, and then others

module _ (s : List ℕ) (film : ℕ) (qs : List Question) where
  -- the file is refused
  pub asked-file : (r : Refusal) → number_of r ≡ verdict s → refusal (file s ∷ (in_file (films_of s) film, no_film) ∷ qs) ≡ number_of r
  asked-file r e = rw (ne_eqb (verdict s) 0 (λ z. number-not_zero r (e ∙ z))) (sym e)

  -- the film is not in it
  pub asked-missing : verdict s ≡ 0 → in_file (films_of s) film ≡ false → refusal (file s ∷ (in_file (films_of s) film, no_film) ∷ qs) ≡ no_film
  asked-missing v e = rw (eq-eqb (verdict s) 0 v, e)

  -- it is
  pub asked-found : (at n : ℕ) → verdict s ≡ 0 → FoundAt s film at n → refusal (file s ∷ (in_file (films_of s) film, no_film) ∷ qs) ≡ refusal qs
  asked-found at n v f = rw (eq-eqb (verdict s) 0 v, f.inside)

-- ---- numbers and values

answer-number : (q value : ℕ) → answer_number (answer_by q value) ≡ q
answer-number zero value = refl
answer-number (suc q) value = refl

answer-values : (q value : ℕ) → answer_values (answer_by q value) ≡ values_if q (value ∷ [])
answer-values zero value = refl
answer-values (suc q) value = refl

pub answered : (qs : List Question) (value : ℕ) (r : Result ℕ ℕ) → r ≡ answer_by (refusal qs) value
    → Answers qs (value ∷ []) (answer_number r) (answer_values r)
answered qs value r e =
    record {
      numbered = ap answer_number e ∙ answer-number (refusal qs) value;
      valued = ap answer_values e ∙ answer-values (refusal qs) value;
    }

-- ---- a schedule

module _ (s : List ℕ) (film p b : ℕ) (out : List ℕ) where
  -- the answer r and the list after it are those of the call, and so are the number and the values
  abbrev pub Scheduled : Result ℕ Refusal → List ℕ → Type 0
  Scheduled r after =
      (numbered r ≡ scheduled s film p b (length out))
      × ((after ≡ schedule_out s film p b out)
      × Answers (schedule_questions s film p b (length out)) (length (plan_totals (sizes_of (films_of s) film) p b) ∷ []) (answer_number (numbered r)) (answer_values (numbered r)))

  pub schedule-refused : (r : Result ℕ Refusal) (e : Refusal) → IsErr r × IsErrAnd r (λ x. x ≡ e)
      → refusal (schedule_questions s film p b (length out)) ≡ number_of e → Scheduled r out
  unfolding scheduled schedule_out
  schedule-refused (Ok x) e h q = absurd h.1
  schedule-refused (Err x) e h q =
      let n : refusal (schedule_questions s film p b (length out)) ≡ number_of x = q ∙ ap number_of (sym h.1) in
      let a = refused (refusal (schedule_questions s film p b (length out))) (length (plan_totals (sizes_of (films_of s) film) p b)) x n in
      (a, (unwritten _ _ out x n, answered _ _ _ a))

  -- its sizes are found
  pub schedule-found : (at n : ℕ) (r : Result ℕ Refusal) (after : List ℕ) → verdict s ≡ 0 → FoundAt s film at n → Planned (sizes s at n) p b out r after
      → Scheduled r after
  unfolding scheduled schedule_out schedule_questions
  schedule-found at n r after v f d =
      let q = asked-found s film (plan_questions (sizes_of (films_of s) film) p b (length out)) at n v f in
      let a : numbered r ≡ answer_by (refusal (schedule_questions s film p b (length out))) (length (plan_totals (sizes_of (films_of s) film) p b)) = rw (q, f.are) d.answer in
      (a, (rw (q, f.are) d.places, answered _ _ _ a))

-- ---- a least reserve

module _ (s : List ℕ) (film p cap : ℕ) where
  pub reserve-refused : (r : Result ℕ Refusal) (e : Refusal) → IsErr r × IsErrAnd r (λ x. x ≡ e)
      → refusal (reserve_questions s film p cap) ≡ number_of e → numbered r ≡ reserved s film p cap
  unfolding reserved
  reserve-refused (Ok x) e h q = absurd h.1
  reserve-refused (Err x) e h q = refused _ _ x (q ∙ ap number_of (sym h.1))

  pub reserve-found : (at n : ℕ) (r : Result ℕ Refusal) → verdict s ≡ 0 → FoundAt s film at n
      → numbered r ≡ answer_by (refusal (cap_questions (sizes s at n) p cap)) (least_reserve (sends p (sizes s at n)) cap)
      → numbered r ≡ reserved s film p cap
  unfolding reserved reserve_questions
  reserve-found at n r v f d = rw (asked-found s film (cap_questions (sizes_of (films_of s) film) p cap) at n v f, f.are) d

-- ---- the least of all reserves

-- where the file's question and those after it all hold, those after it do
after-file : (s : List ℕ) (qs : List Question) → refusal (file s ∷ qs) ≡ 0 → refusal qs ≡ 0
after-file s qs e = go (eqb (verdict s) 0) refl e
  where
    go : (t : Bool) → eqb (verdict s) 0 ≡ t → cond t (refusal qs) (verdict s) ≡ 0 → refusal qs ≡ 0
    go true f e = e
    go false f e = absurd (true≢false (sym (eq-eqb (verdict s) 0 e) ∙ f))

value-number : (q m b : ℕ) → answer_values (answer_by q m) ≡ b ∷ [] → (q ≡ 0) × (m ≡ b)
value-number zero m b e = (refl, cc)
value-number (suc q) m b e = let z : ◌≡◌ {A = ℕ} 0 1 = cc in absurd (omega arith)

-- whatever value is answered, it is the least reserve over all schedules
reserved-least : (s : List ℕ) (film p cap b : ℕ) → answer_values (reserved s film p cap) ≡ b ∷ []
    → Least (sends p (sizes_of (films_of s) film)) cap b
unfolding reserved reserve_questions cap_questions
reserved-least s film p cap b e =
    let sizes = sizes_of (films_of s) film in
    let n = value-number (refusal (reserve_questions s film p cap)) (least_reserve (sends p sizes) cap) b e in
    let found = refusal-held (in_file (films_of s) film) no_film (cap_questions sizes p cap) (omega arith) (after-file s ((in_file (films_of s) film, no_film) ∷ cap_questions sizes p cap) n.0) in
    let ahead = refusal-held (leb p max_prefetch) prefetch_bound ((leb (largest sizes) cap, cap_bound) ∷ []) (omega arith) found.1 in
    let capped = refusal-held (leb (largest sizes) cap) cap_bound [] (omega arith) ahead.1 in
    rw n.1 at (least_reserve-least p cap sizes (leb-true (largest sizes) cap capped.0))

-- an answer that is the call's meets the call's promises
pub reserved-said : (s : List ℕ) (film p cap : ℕ) (r : Result ℕ ℕ) → r ≡ reserved s film p cap
    → (r ≡ reserved s film p cap)
    × (((b : ℕ) → answer_values r ≡ b ∷ [] → Least (sends p (sizes_of (films_of s) film)) cap b)
    × Answers (reserve_questions s film p cap) (least_reserve (sends p (sizes_of (films_of s) film)) cap ∷ []) (answer_number r) (answer_values r))
unfolding reserved
reserved-said s film p cap r e =
    (e, (λ b v. reserved-least s film p cap b (ap answer_values (sym e) ∙ v), answered _ _ r e))
