-- A report line by the carry, as the code computes it, is the line by the schedule rule; there is a line for each open
-- film; and where no cab shows two films, the cab bits of the films showing count as those of their joined cabs. Assumes
-- nothing.
use Rattle.std.specs.Prelude.{◌≡◌, refl, Bool, true, false, cond, List, [], ◌∷◌, ℕ, zero, suc, ◌+◌, ◌-◌, ◌/◌, ◌≤◌, ◌<◌, min, length, get_or, drop, eqb}
use Rattle.std.proofs.Common.{ap, ◌∙◌, not-suc-le-zero, le_of_suc-le-suc, arith, eqb-true}
use Rattle.std.proofs.Math.Arith.{bin_ind}
use Rattle.std.specs.Int.Bits.{bit_and, bit_or, and_step, or_step, or_zero_l}
use Rattle.std.specs.Int.Count.{ones, ones_step}
use Rattle.std.proofs.lemmas.Nat.{ones-le}
use Rattle.laws.specs.Tests.{left, right, all}
use Rattle.retrieval.specs.Schedule.{totals}
use Rattle.retrieval.specs.JustInTime.{due, just_in_time}
use Rattle.retrieval.specs.Carry.{carry, profile}
use Rattle.retrieval.proofs.Laws.{due-carry, just_in_time-at, profile-at, carry-drop}
use Rattle.model.specs.Day.{Setting, total, sending, open_at, cabs_at, exists, opened}
use Rattle.model.specs.Report.{line_of, lines_of}
use Rattle.model.specs.Soundness.{apart}
use Rattle.model.specs.Calls.{cabs_joined}
use Rattle.model.proofs.FitLaws.{place, exists-carry}
use Rattle.model.specs.declared.Booking.{Booking}
use Rattle.model.specs.declared.Line.{Line}

-- C(v) is C(v-1) and what round v sends
pub totals-at : (c : ℕ) (xs : List ℕ) (v : ℕ) → v < length xs → get_or (totals c xs) v 0 ≡ get_or (c ∷ totals c xs) v 0 + get_or xs v 0
totals-at c [] v u = absurd (not-suc-le-zero u)
totals-at c (x ∷ xs) zero u = refl
totals-at c (x ∷ xs) (suc v) u = totals-at (c + x) xs v (le_of_suc-le-suc u)

-- A(u-1) is C(u-1) and the carry from round u on
pub just_in_time-prev : (b c : ℕ) (xs : List ℕ) (u : ℕ) → u ≤ length xs
    → get_or ((c + carry b xs) ∷ just_in_time b c xs) u 0 ≡ get_or (c ∷ totals c xs) u 0 + carry b (drop u xs)
just_in_time-prev b c xs zero v = refl
just_in_time-prev b c [] (suc u) v = absurd (not-suc-le-zero v)
just_in_time-prev b c (x ∷ xs) (suc u) v =
    let e : due b c x xs ≡ (c + x) + carry b xs = omega (arith, due-carry b c x xs) in
    ap (λ (n : ℕ). get_or (n ∷ just_in_time b (c + x) xs) u 0) e ∙ just_in_time-prev b (c + x) xs u (le_of_suc-le-suc v)

pub ones-or : (a b : ℕ) → bit_and a b ≡ 0 → ones (bit_or a b) ≡ ones a + ones b
ones-or =
    bin_ind (λ n. (b : ℕ) → bit_and n b ≡ 0 → ones (bit_or n b) ≡ ones n + ones b)
    (λ b e. rw (or_zero_l b) (omega (arith, ones-le 0 0 (omega arith))))
    (λ n ih b e.
    let o : bit_or n b / 2 ≡ bit_or (n / 2) (b / 2) = omega (arith, or_step n b) in
    let a : bit_and (n / 2) (b / 2) ≡ 0 = omega (arith, and_step n b) in
    omega (arith, ih (b / 2) a, ap ones o, ones_step n, ones_step b, ones_step (bit_or n b), or_step n b, and_step n b))

module _ (S : Setting) (t : ℕ) where
  -- what is held, and of it no more than the reserve is new
  abbrev pub carry_line : Booking → Line
  carry_line b =
      let kept = get_or (profile b.reserve (sending S b)) (t - b.start) 0 in
      record { name = b.name; read = min b.reserve kept; send = get_or (sending S b) (t - b.start) 0; held = kept }

  abbrev pub carry_lines : List Booking → List Line
  carry_lines [] = []
  carry_lines (b ∷ bs) = cond (open_at S t b) (carry_line b ∷ carry_lines bs) (carry_lines bs)

  pub line_same : (b : Booking) → exists S b ≡ true → open_at S t b ≡ true → carry_line b ≡ line_of S t b
  line_same b e o =
      let xs = sending S b in
      let r = b.reserve in
      let u = t - b.start in
      let k : u < length xs = (place S t b o).1 in
      let z : carry r xs ≡ 0 = exists-carry S b e in
      let z0 : 0 + carry r xs ≡ 0 = omega arith in
      let prev : get_or (0 ∷ just_in_time r 0 xs) u 0 ≡ get_or (0 ∷ totals 0 xs) u 0 + carry r (drop u xs) =
      rw z0 at (just_in_time-prev r 0 xs u (omega arith)) in
      let here = just_in_time-at r 0 xs u k in
      let sent = totals-at 0 xs u k in
      let kept = profile-at r xs u k in
      let turn = carry-drop r xs u k in
      let re : min r (get_or (profile r xs) u 0) ≡ get_or (just_in_time r 0 xs) u 0 - get_or (0 ∷ just_in_time r 0 xs) u 0 = omega arith in
      let se : get_or xs u 0 ≡ get_or (totals 0 xs) u 0 - get_or (0 ∷ totals 0 xs) u 0 = omega arith in
      let he : get_or (profile r xs) u 0 ≡ get_or (just_in_time r 0 xs) u 0 - get_or (0 ∷ totals 0 xs) u 0 = omega arith in
      λ i. record { name = b.name; read = re i; send = se i; held = he i }

  pub lines_same : (bs : List Booking) → all (exists S) bs ≡ true → carry_lines bs ≡ lines_of S t bs
  lines_same [] e = refl
  lines_same (b ∷ bs) e =
      go (open_at S t b) (line_same b (left (exists S b) (all (exists S) bs) e)) (lines_same bs (right (exists S b) e))
    where
      go : (o : Bool) → (o ≡ true → carry_line b ≡ line_of S t b) → carry_lines bs ≡ lines_of S t bs
          → cond o (carry_line b ∷ carry_lines bs) (carry_lines bs) ≡ cond o (line_of S t b ∷ lines_of S t bs) (lines_of S t bs)
      go true f i = cc (f refl)
      go false f i = i

  pub lines-count : (bs : List Booking) → length (lines_of S t bs) ≡ opened S t bs
  lines-count [] = refl
  lines-count (b ∷ bs) = go (open_at S t b) (lines-count bs)
    where
      go : (o : Bool) → length (lines_of S t bs) ≡ opened S t bs
          → length (cond o (line_of S t b ∷ lines_of S t bs) (lines_of S t bs)) ≡ cond o 1 0 + opened S t bs
      go true i = omega arith
      go false i = omega arith

  pub cabs-count : (c : ℕ) (bs : List Booking) → apart S t c bs ≡ true
      → ones (cabs_joined S t c bs) ≡ ones c + total (λ b. ones (cabs_at S t b)) bs
  cabs-count c [] e = omega arith
  cabs-count c (b ∷ bs) e =
      let d = cabs_at S t b in
      let z : bit_and c d ≡ 0 = eqb-true _ 0 (left (eqb (bit_and c d) 0) (apart S t (bit_or c d) bs) e) in
      omega (arith, cabs-count (bit_or c d) bs (right (eqb (bit_and c d) 0) e), ones-or c d z)
