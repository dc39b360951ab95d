-- A sound list stays sound: with an accepted booking at its end, and without a dropped one. Assumes nothing but, for the
-- drop, that the loss rises.
use Rattle.std.specs.Prelude.{◌≡◌, refl, Bool, false, cond, not, ◌&&◌, ◌||◌, ℕ, suc, ◌+◌, ◌≤◌, length, eqb}
use Rattle.std.proofs.Common.{sym, ap, true≢false, le_trans, arith}
use Rattle.std.proofs.Math.Bool.{true}
use Rattle.std.proofs.lemmas.Bool.{false≢true}
use mathlib.Core.List.{List, [], ◌∷◌, ◌++◌, map, append-nil}
use Rattle.std.proofs.Math.Dec.{leb, ltb}
use borrow.Author.Tests.{leb-true, ltb-true, eqb-true, eqb-false, le-leb, eq-eqb, ne_eqb, not-true}
use Rattle.laws.specs.Tests.{left, right, join, all}
use Rattle.laws.specs.Questions.{Question, refusal, refusal-held}
use Rattle.limits.specs.Bounds.{max_prefetch, max_reserve, max_bookings}
use Rattle.limits.specs.Refusals.{no_film, prefetch_bound, reserve_bound, no_schedule, list_full, name_taken, no_cab, window_bound}
use Rattle.films.specs.Layout.{in_file}
use Rattle.model.specs.Day.{Setting, record_of, total, ends, open_at, schedule_of, exists, opened}
use Rattle.model.specs.Fit.{Kept}
use Rattle.model.specs.Questions.{has_name, file_question, record_questions, window_open, book_own}
use Rattle.model.specs.Soundness.{names_differ, passes, limits_kept, sound_list, fit_test}
use Rattle.model.specs.Calls.{without}
use Rattle.model.specs.PlainDay.{others}
use Rattle.model.proofs.FitLaws.{round-says, says-round, limits-round, round-limits, now-kept}
use Rattle.model.specs.Loss.{Rising}
use Rattle.model.specs.declared.Booking.{Booking}
use Rattle.model.specs.declared.Request.{Request}
use Rattle.model.specs.SoundLaws.{Asked, Passed, Sound}

-- ---- the file's question

-- no number: the file is accepted, and the questions after it say no "no"
pub file-held : (S : Setting) (qs : List Question) → refusal (file_question S ∷ qs) ≡ 0 → refusal qs ≡ 0
file-held S qs e = go (eqb S.verdict 0) refl e
  where
    go : (t : Bool) → eqb S.verdict 0 ≡ t → cond t (refusal qs) S.verdict ≡ 0 → refusal qs ≡ 0
    go true u w = w
    go false u w = absurd (eqb-false S.verdict 0 u w)

-- ---- lists

pub all_snoc : (f : Booking → Bool) (bs : List Booking) (b : Booking) → all f bs ≡ true → f b ≡ true → all f (bs ++ (b ∷ [])) ≡ true
all_snoc f [] b e u = join u refl
all_snoc f (x ∷ bs) b e u = join (left (f x) (all f bs) e) (all_snoc f bs b (right (f x) e) u)

pub all_map : (f g : Booking → Bool) (bs : List Booking) → ((b : Booking) → f b ≡ true → g b ≡ true) → all f bs ≡ true → all g bs ≡ true
all_map f g [] w e = refl
all_map f g (b ∷ bs) w e = join (w b (left (f b) (all f bs) e)) (all_map f g bs w (right (f b) e))

pub all_without : (f : Booking → Bool) (n : ℕ) (bs : List Booking) → all f bs ≡ true → all f (without n bs) ≡ true
all_without f n [] e = refl
all_without f n (b ∷ bs) e = go (eqb b.name n) (all_without f n bs (right (f b) e))
  where
    go : (t : Bool) → all f (without n bs) ≡ true → all f (cond t bs (b ∷ without n bs)) ≡ true
    go true i = right (f b) e
    go false i = join (left (f b) (all f bs) e) i

pub total-without : (f : Booking → ℕ) (n : ℕ) (bs : List Booking) → total f (without n bs) ≤ total f bs
total-without f n [] = omega arith
total-without f n (b ∷ bs) = go (eqb b.name n) (total-without f n bs)
  where
    go : (t : Bool) → total f (without n bs) ≤ total f bs → total f (cond t bs (b ∷ without n bs)) ≤ total f (b ∷ bs)
    go true i = omega arith
    go false i = omega arith

pub length_without : (n : ℕ) (bs : List Booking) → has_name n bs ≡ true → suc (length (without n bs)) ≡ length bs
length_without n [] e = absurd (false≢true e)
length_without n (b ∷ bs) e = go (eqb b.name n) e (length_without n bs)
  where
    go : (t : Bool) → t || has_name n bs ≡ true → (has_name n bs ≡ true → suc (length (without n bs)) ≡ length bs)
        → suc (length (cond t bs (b ∷ without n bs))) ≡ length (b ∷ bs)
    go true u i = refl
    go false u i = ap suc (i u)

-- ---- names

eqb-flip : (a b : ℕ) → eqb a b ≡ false → eqb b a ≡ false
eqb-flip a b e = ne_eqb b a (λ q. eqb-false a b e (sym q))

or_no : (a b : Bool) → a || b ≡ false → (a ≡ false) × (b ≡ false)
or_no true b e = absurd (true≢false e)
or_no false b e = (refl, e)

others-all : (n : ℕ) (bs : List Booking) → has_name n bs ≡ false → others n bs ≡ bs
others-all n [] e = refl
others-all n (b ∷ bs) e =
    let w = or_no (eqb b.name n) (has_name n bs) e in
    rw (w.0, others-all n bs w.1)

no_or : (a b : Bool) → a ≡ false → b ≡ false → a || b ≡ false
no_or true b e u = e
no_or false b e u = u

name-snoc : (n : ℕ) (bs : List Booking) (b : Booking) → has_name n bs ≡ false → eqb b.name n ≡ false
    → has_name n (bs ++ (b ∷ [])) ≡ false
name-snoc n [] b e u = no_or _ _ u refl
name-snoc n (x ∷ bs) b e u = let w = or_no (eqb x.name n) _ e in no_or _ _ w.0 (name-snoc n bs b w.1 u)

name-without : (n k : ℕ) (bs : List Booking) → has_name n bs ≡ false → has_name n (without k bs) ≡ false
name-without n k [] e = refl
name-without n k (b ∷ bs) e =
    let w = or_no (eqb b.name n) (has_name n bs) e in
    go (eqb b.name k) w.0 w.1 (name-without n k bs w.1)
  where
    go : (t : Bool) → eqb b.name n ≡ false → has_name n bs ≡ false → has_name n (without k bs) ≡ false
        → has_name n (cond t bs (b ∷ without k bs)) ≡ false
    go true u v i = v
    go false u v i = no_or _ _ u i

pub differ-snoc : (bs : List Booking) (b : Booking) → names_differ bs ≡ true → has_name b.name bs ≡ false
    → names_differ (bs ++ (b ∷ [])) ≡ true
differ-snoc [] b e u = refl
differ-snoc (x ∷ bs) b e u =
    let w = or_no (eqb x.name b.name) (has_name b.name bs) u in
    let v = name-snoc x.name bs b (not-true _ (left (not (has_name x.name bs)) (names_differ bs) e)) (eqb-flip x.name b.name w.0) in
    join (ap not v) (differ-snoc bs b (right (not (has_name x.name bs)) e) w.1)

pub differ-without : (n : ℕ) (bs : List Booking) → names_differ bs ≡ true → names_differ (without n bs) ≡ true
differ-without n [] e = refl
differ-without n (b ∷ bs) e =
    let d = right (not (has_name b.name bs)) e in
    go (eqb b.name n) d (differ-without n bs d)
  where
    go : (t : Bool) → names_differ bs ≡ true → names_differ (without n bs) ≡ true
        → names_differ (cond t bs (b ∷ without n bs)) ≡ true
    go true d i = d
    go false d i = join (ap not (name-without b.name n bs (not-true _ (left (not (has_name b.name bs)) (names_differ bs) e)))) i

-- where names differ, the list without a booking is all the others
pub without-others : (n : ℕ) (bs : List Booking) → names_differ bs ≡ true → without n bs ≡ others n bs
without-others n [] e = refl
without-others n (b ∷ bs) e =
    go (eqb b.name n) refl (not-true _ (left (not (has_name b.name bs)) (names_differ bs) e))
    (without-others n bs (right (not (has_name b.name bs)) e))
  where
    go : (t : Bool) → eqb b.name n ≡ t → has_name b.name bs ≡ false → without n bs ≡ others n bs
        → cond t bs (b ∷ without n bs) ≡ cond t (others n bs) (b ∷ others n bs)
    go true u v i = sym (others-all n bs (rw (eqb-true b.name n u) at v))
    go false u v i = ap (λ (r : List Booking). b ∷ r) i

module _ (S : Setting) where
  -- no number: the record passes, and the questions after it say no "no"
  pub record-held : (b : Booking) (later : List Question) → refusal (record_questions S b ++ later) ≡ 0 → (Passed S) b × (refusal later ≡ 0)
  unfolding record_questions
  record-held b later e =
      let q12 : List Question = (exists S b, no_schedule) ∷ later in
      let q20 : List Question = (not (eqb b.cabs 0), no_cab) ∷ q12 in
      let q10 : List Question = (leb b.reserve max_reserve, reserve_bound) ∷ q20 in
      let q9 : List Question = (leb b.prefetch max_prefetch, prefetch_bound) ∷ q10 in
      let a8 = refusal-held (in_file S.films b.film) no_film q9 (omega arith) e in
      let a9 = refusal-held (leb b.prefetch max_prefetch) prefetch_bound q10 (omega arith) a8.1 in
      let a10 = refusal-held (leb b.reserve max_reserve) reserve_bound q20 (omega arith) a9.1 in
      let a20 = refusal-held (not (eqb b.cabs 0)) no_cab q12 (omega arith) a10.1 in
      let a12 = refusal-held (exists S b) no_schedule later (omega arith) a20.1 in (
        record { film = a8.0; prefetch = leb-true _ _ a9.0; reserve = leb-true _ _ a10.0; cabs = a20.0; exist = a12.0 },
        a12.1,
      )

  pub held-record : (b : Booking) → (Passed S) b → refusal (record_questions S b) ≡ 0
  unfolding record_questions
  held-record b p = rw (p.film, le-leb _ _ p.prefetch, le-leb _ _ p.reserve, p.cabs, p.exist)

  pub sound-says : (bs : List Booking) → sound_list S bs ≡ true → (Sound S) bs
  unfolding sound_list
  sound-says bs e =
      let u = right (names_differ bs) e in
      record {
        names = left (names_differ bs) (all (passes S) bs && limits_kept S bs) e;
        passed = left (all (passes S) bs) (limits_kept S bs) u;
        kept = right (all (passes S) bs) u;
      }

  pub says-sound : (bs : List Booking) → (Sound S) bs → sound_list S bs ≡ true
  unfolding sound_list
  says-sound bs s = join s.names (join s.passed s.kept)

  pub passes-held : (b : Booking) → passes S b ≡ true → (Passed S) b × (ends S b ≤ S.rounds)
  unfolding passes
  passes-held b e =
      let z : refusal (record_questions S b) ≡ 0 = eqb-true _ 0 (left (eqb (refusal (record_questions S b)) 0) (leb (ends S b) S.rounds) e) in (
        (record-held b [] (rw (append-nil (record_questions S b)) z)).0,
        leb-true _ _ (right (eqb (refusal (record_questions S b)) 0) e),
      )

  pub held-passes : (b : Booking) → (Passed S) b → ends S b ≤ S.rounds → passes S b ≡ true
  unfolding passes
  held-passes b p u = join (eq-eqb _ 0 (held-record b p)) (le-leb _ _ u)

  pub passes-exists : (b : Booking) → passes S b ≡ true → exists S b ≡ true
  passes-exists b e = (passes-held b e).0.exist

  pub sound-exist : (bs : List Booking) → (Sound S) bs → all (exists S) bs ≡ true
  sound-exist bs s = all_map (passes S) (exists S) bs passes-exists s.passed

  -- the standing bookings of a sound list keep limits and cabs in every round, each with its schedule by the rule
  pub sound-kept : (bs : List Booking) → (Sound S) bs → Kept S bs (map (schedule_of S) bs)
  unfolding fit_test
  sound-kept bs s = now-kept S bs (join (sound-exist bs s) s.kept)

  pub asked : (bs : List Booking) (count places now : ℕ) (q : Request)
      → refusal (file_question S ∷ book_own S bs count places now q) ≡ 0 → (Asked S) bs count places now q
  unfolding book_own window_open
  asked bs count places now q e =
      let b = record_of q q.first in
      let w = leb q.first q.last && leb (ends S (record_of q q.last)) S.rounds in
      let q17 : List Question = (ltb count max_bookings && ltb count places, list_full) ∷ [] in
      let q21 : List Question = (leb now q.first && w, window_bound) ∷ q17 in
      let f = file-held S (book_own S bs count places now q) e in
      let a18 = refusal-held (not (has_name q.name bs)) name_taken (record_questions S b ++ q21) (omega arith) f in
      let r = record-held b q21 a18.1 in
      let a21 = refusal-held (leb now q.first && w) window_bound q17 (omega arith) r.1 in
      let a17 = refusal-held (ltb count max_bookings && ltb count places) list_full [] (omega arith) a21.1 in
      let u : w ≡ true = right (leb now q.first) a21.0 in
      record {
        new = not-true _ a18.0;
        fair = r.0;
        today = leb-true _ _ (left (leb now q.first) w a21.0);
        window = leb-true _ _ (left (leb q.first q.last) (leb (ends S (record_of q q.last)) S.rounds) u);
        ending = leb-true _ _ (right (leb q.first q.last) u);
        few = ltb-true _ _ (left (ltb count max_bookings) (ltb count places) a17.0);
        place = ltb-true _ _ (right (ltb count max_bookings) a17.0);
      }

  -- a record's questions do not turn on its start
  pub passed-at : (q : Request) (s x : ℕ) → (Passed S) (record_of q s) → (Passed S) (record_of q x)
  unfolding exists
  passed-at q s x p = record { film = p.film; prefetch = p.prefetch; reserve = p.reserve; cabs = p.cabs; exist = p.exist }

  pub passes_at : (q : Request) (x : ℕ) → (Passed S) (record_of q q.first) → x ≤ q.last
      → ends S (record_of q q.last) ≤ S.rounds → passes S (record_of q x) ≡ true
  passes_at q x p u v = held-passes (record_of q x) (passed-at q q.first x p) (omega arith)

  pub sound-snoc : (bs : List Booking) (b : Booking) → (Sound S) bs → has_name b.name bs ≡ false → passes S b ≡ true
      → limits_kept S (bs ++ (b ∷ [])) ≡ true → (Sound S) (bs ++ (b ∷ []))
  sound-snoc bs b s u v w =
      record { names = differ-snoc bs b s.names u; passed = all_snoc (passes S) bs b s.passed v; kept = w }

  -- ---- a dropped one

  pub opened-length : (t : ℕ) (bs : List Booking) → opened S t bs ≤ length bs
  opened-length t [] = omega arith
  opened-length t (b ∷ bs) = go (open_at S t b) (opened-length t bs)
    where
      go : (o : Bool) → opened S t bs ≤ length bs → cond o 1 0 + opened S t bs ≤ length (b ∷ bs)
      go true i = omega arith
      go false i = omega arith

  pub sound-without : Rising S.loss → (n : ℕ) (bs : List Booking) → length bs ≤ max_bookings
      → (Sound S) bs → (Sound S) (without n bs)
  sound-without rising n bs few s =
      record {
        names = differ-without n bs s.names;
        passed = all_without (passes S) n bs s.passed;
        kept =
            round-limits S (without n bs)
            (λ t b.
            let r = round-says S bs t (limits-round S bs s.kept t b) in
            let o = opened-length t bs in
            let c = rising.rises (opened S t (without n bs)) (opened S t bs) (total-without _ n bs) (omega arith) in
            says-round S (without n bs) t (record {
              disk = omega (arith, r.disk, c, total-without (λ b. cond (open_at S t b) b.reserve 0) n bs);
              memory = le_trans (total-without _ n bs) r.memory;
              cabs = λ k. le_trans (total-without _ n bs) (r.cabs k);
            }));
      }
