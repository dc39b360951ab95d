-- A list of bookings fits exactly if the desk's test by the just-in-time schedules says so: these hold no more than any
-- others in each round, and the disk and the cabs do not turn on the schedules. Assumes nothing.
use Rattle.std.specs.Prelude.{◌≡◌, refl, ◌↔◌, Bool, false, cond, ◌&&◌, List, [], ◌∷◌, map, ℕ, zero, suc, ◌+◌, ◌-◌, ◌≤◌, ◌<◌, length, get_or, ltb, eqb}
use Rattle.std.proofs.Common.{sym, ap, ◌∙◌, true≢false, arith}
use Rattle.std.proofs.Math.Bool.{true}
use Rattle.std.proofs.Math.Dec.{leb}
use Rattle.std.specs.Int.Bits.{bit_and, bit_or}
use borrow.Author.Tests.{leb-true, ltb-true, eqb-true, le-leb, eq-eqb}
use Rattle.laws.specs.Tests.{left, right, join, all, below_at, below_all}
use Rattle.laws.specs.Bits.{bit, bit-and, bit-or, bit-lt, bit-none, apart-and}
use Rattle.films.specs.Layout.{sizes_of}
use Rattle.retrieval.specs.Schedule.{sends, helds}
use Rattle.retrieval.specs.JustInTime.{just_in_time}
use Rattle.retrieval.specs.Carry.{carry}
use Rattle.retrieval.proofs.Laws.{due-carry, just_in_time-schedule, schedule-carry, reads-helds, just_in_time-helds}
use Rattle.model.specs.Day.{Setting, sending, ends, open_at, cabs_at, schedule_of, exists, held_at, opened, reserved, held, showing}
use Rattle.model.specs.Fit.{Allowed, Schedules, held_by, Kept, Fits}
use Rattle.model.specs.Soundness.{apart, round_kept, limits_kept, fit_test}
use Rattle.model.specs.declared.Booking.{Booking}
use Rattle.model.specs.FitLaws.{Round}

-- a booking's share counts only where it is open
cond-le : (o : Bool) (x y : ℕ) → (o ≡ true → x ≤ y) → cond o x 0 ≤ cond o y 0
cond-le true x y f = f refl
cond-le false x y f = omega arith

pub length-sends : (p : ℕ) (xs : List ℕ) → length (sends p xs) ≡ p + length xs
length-sends zero xs = omega arith
length-sends (suc p) xs = omega (arith, length-sends p xs)

module _ (S : Setting) where
  -- where it is open its place in its own rounds is one of them
  pub place : (t : ℕ) (b : Booking) → open_at S t b ≡ true → (b.start ≤ t) × (t - b.start < length (sending S b))
  unfolding open_at
  place t b e =
      let u = leb-true b.start t (left (leb b.start t) (ltb t (ends S b)) e) in
      let v = ltb-true t (ends S b) (right (leb b.start t) e) in
      (u, omega (arith, length-sends b.prefetch (sizes_of S.films b.film)))

  -- ---- a schedule exists

  first-carry : (b : ℕ) (xs : List ℕ) → get_or (just_in_time b 0 xs) 0 0 ≤ b ↔ (carry b xs ≡ 0)
  first-carry b [] = (λ u. refl, λ u. omega arith)
  first-carry b (x ∷ xs) = (λ u. omega (arith, due-carry b 0 x xs), λ u. omega (arith, due-carry b 0 x xs))

  pub exists-carry : (b : Booking) → exists S b ≡ true → carry b.reserve (sending S b) ≡ 0
  unfolding exists
  exists-carry b e = (first-carry b.reserve (sending S b)).0 (leb-true _ _ e)

  pub carry-exists : (b : Booking) → carry b.reserve (sending S b) ≡ 0 → exists S b ≡ true
  unfolding exists
  carry-exists b e = le-leb _ _ ((first-carry b.reserve (sending S b)).1 e)

  -- exactly if some list is one
  pub exists_iff : (b : Booking) → ((A : List ℕ) × Allowed S b A) ↔ (exists S b ≡ true)
  exists_iff b = (
    λ v. carry-exists b (schedule-carry b.reserve (sending S b) v.0 v.1),
    λ e. (just_in_time b.reserve 0 (sending S b), just_in_time-schedule b.reserve (sending S b) (exists-carry b e)),
  )

  -- ---- the just-in-time schedules of a list

  pub rule-schedules : (bs : List Booking) → all (exists S) bs ≡ true → Schedules S bs (map (schedule_of S) bs)
  rule-schedules [] e = tt
  rule-schedules (b ∷ bs) e = (just_in_time-schedule b.reserve (sending S b) (exists-carry b (left (exists S b) (all (exists S) bs) e)), rule-schedules bs (right (exists S b) e))

  pub schedules-exist : (bs : List Booking) (As : List (List ℕ)) → Schedules S bs As → all (exists S) bs ≡ true
  schedules-exist [] As s = refl
  schedules-exist (b ∷ bs) [] s = absurd s
  schedules-exist (b ∷ bs) (A ∷ As) s = join ((exists_iff b).0 (A, s.0)) (schedules-exist bs As s.1)

  pub rule-held : (t : ℕ) (bs : List Booking) → held_by S t bs (map (schedule_of S) bs) ≡ held S t bs
  rule-held t [] = refl
  rule-held t (b ∷ bs) = ap (λ (x : ℕ). held_at S t b (schedule_of S b) + x) (rule-held t bs)

  -- no schedules hold less
  pub held-least : (t : ℕ) (bs : List Booking) (As : List (List ℕ)) → Schedules S bs As → held S t bs ≤ held_by S t bs As
  held-least t [] As s = omega arith
  held-least t (b ∷ bs) [] s = absurd s
  held-least t (b ∷ bs) (A ∷ As) s =
      let q = cond-le (open_at S t b) (get_or (helds 0 (sending S b) (schedule_of S b)) (t - b.start) 0) (get_or (helds 0 (sending S b) A) (t - b.start) 0)
      (λ e. rw (just_in_time-helds b.reserve 0 (sending S b))
      (reads-helds b.reserve 0 0 (sending S b) A (omega arith) s.0 (t - b.start) (place t b e).1)) in
      omega (arith, held-least t bs As s.1)

  -- ---- the cabs

  pub apart-showing : (t c : ℕ) (bs : List Booking) → apart S t c bs ≡ true → (k : ℕ) → bit k c + showing S k t bs ≤ 1
  apart-showing t c [] e k = omega (arith, bit-lt k c)
  apart-showing t c (b ∷ bs) e k =
      let d = cabs_at S t b in
      let z : bit_and c d ≡ 0 = eqb-true (bit_and c d) 0 (left (eqb (bit_and c d) 0) (apart S t (bit_or c d) bs) e) in
      let q = apart-showing t (bit_or c d) bs (right (eqb (bit_and c d) 0) e) k in
      omega (arith, bit-or k c d, bit-and k c d, ap (bit k) z, bit-none k, bit-lt k c, bit-lt k d)

  pub showing-apart : (t c : ℕ) (bs : List Booking) → ((k : ℕ) → bit k c + showing S k t bs ≤ 1) → apart S t c bs ≡ true
  showing-apart t c [] f = refl
  showing-apart t c (b ∷ bs) f =
      join (eq-eqb _ 0 (apart-and c (cabs_at S t b) (λ k p q. omega (arith, f k))))
      (showing-apart t (bit_or c (cabs_at S t b)) bs (λ k. omega (arith, f k, bit-or k c (cabs_at S t b))))

  -- ---- the test says exactly whether some schedules fit

  pub limits-round : (bs : List Booking) → limits_kept S bs ≡ true → (t : ℕ) → t < S.rounds → round_kept S bs t ≡ true
  unfolding limits_kept
  limits-round bs e = below_at S.rounds (round_kept S bs) e

  pub round-limits : (bs : List Booking) → ((t : ℕ) → t < S.rounds → round_kept S bs t ≡ true) → limits_kept S bs ≡ true
  unfolding limits_kept
  round-limits bs f = below_all S.rounds (round_kept S bs) f

  pub round-says : (bs : List Booking) (t : ℕ) → round_kept S bs t ≡ true → (Round S) bs t
  unfolding round_kept
  round-says bs t e =
      let d = leb (reserved S t bs + S.loss (opened S t bs)) S.disk in
      let m = leb (held S t bs) S.memory in
      let u : m && apart S t 0 bs ≡ true = right d e in
      record {
        disk = leb-true _ _ (left d (m && apart S t 0 bs) e);
        memory = leb-true _ _ (left m (apart S t 0 bs) u);
        cabs = λ k. omega (arith, apart-showing t 0 bs (right m u) k);
      }

  pub says-round : (bs : List Booking) (t : ℕ) → (Round S) bs t → round_kept S bs t ≡ true
  unfolding round_kept
  says-round bs t r =
      join (le-leb _ _ r.disk) (join (le-leb _ _ r.memory) (showing-apart t 0 bs (λ k. omega (arith, r.cabs k, bit-none k))))

  pub fits-now : (bs : List Booking) → Fits S bs → fit_test S bs ≡ true
  unfolding fit_test
  fits-now bs v =
      let As = v.0 in
      let f = v.1 in
      join (schedules-exist bs As f.schedules)
      (round-limits bs
      (λ t b. says-round bs t (record {
        disk = f.disk t b;
        memory = omega (arith, f.memory t b, held-least t bs As f.schedules);
        cabs = f.cabs t b;
      })))

  pub now-kept : (bs : List Booking) → fit_test S bs ≡ true → Kept S bs (map (schedule_of S) bs)
  unfolding fit_test
  now-kept bs e =
      let r : (t : ℕ) → t < S.rounds → (Round S) bs t =
      λ t b. round-says bs t (limits-round bs (right (all (exists S) bs) e) t b) in
      record {
        schedules = rule-schedules bs (left (all (exists S) bs) (limits_kept S bs) e);
        disk = λ t b. (r t b).disk;
        memory = λ t b. rw (rule-held t bs) (r t b).memory;
        cabs = λ t b. (r t b).cabs;
      }

  pub fits_iff : (bs : List Booking) → Fits S bs ↔ (fit_test S bs ≡ true)
  fits_iff bs = (fits-now bs, λ e. (map (schedule_of S) bs, now-kept bs e))

  -- so there is a test that says so
  pub dec_fits : (bs : List Booking) → Dec (Fits S bs)
  dec_fits bs = go (fit_test S bs) refl
    where
      go : (t : Bool) → fit_test S bs ≡ t → Dec (Fits S bs)
      go true e = yes ((fits_iff bs).1 e)
      go false e = no (λ v. true≢false (sym ((fits_iff bs).0 v) ∙ e))
