-- Demand 3: "Any booking that passes the earlier questions, in such a list or on any other lent day, starts in the first
-- round of its window at which some underflow-free schedules, for it and for all standing bookings at their own reserves
-- and starts, would fit the limits and leave its cabs free; it is refused 22 exactly when its window has no such round."
-- Assumes nothing.
use Rattle.std.specs.Prelude.{◌≡◌, refl, ◌↔◌, Bool, true, false, cond, List, [], ◌∷◌, ◌++◌, ℕ, zero, suc, ◌-◌}
use Rattle.std.proofs.Common.{sym, ◌∙◌, inl, inr, ⊎_elim, true≢false, eq-or-lt_of_le, arith}
use Rattle.laws.specs.Questions.{refusal}
use Rattle.limits.specs.Refusals.{no_start}
use Rattle.model.specs.Day.{Setting, State, record_of}
use Rattle.model.specs.Fit.{Fits, FitsAt, Found, nowhere, at, search, first_of, First, None}
use Rattle.model.specs.Calls.{standing, book_questions, start_of, book_with, book_call}
use Rattle.model.specs.PlainDay.{PlainDay, booking, does, plain_number, plain_start, plain_book, plain_call}
use Rattle.model.proofs.FitLaws.{fits_iff}
use Rattle.model.specs.declared.Booking.{Booking}
use Rattle.model.specs.declared.Request.{Request}
use Rattle.model.specs.declared.Answer.TheVariants.{Booked, Refused}
use Rattle.model.specs.FirstFit.{AnswersFirst, Finds, FirstStart}

pub search-finds : (f : ℕ → Bool) (s n : ℕ) → Finds f s n (search f s n)
search-finds f s zero = λ q a b. absurd (omega arith)
search-finds f s (suc n) = go (f s) refl (search f (suc s) n) (search-finds f (suc s) n)
  where
    go : (v : Bool) → f s ≡ v → (o : Found) → Finds f (suc s) n o → Finds f s (suc n) (cond v (at s) o)
    go true e o w = record { from = omega arith; upto = omega arith; passes = e; earlier = λ q a b. absurd (omega arith) }
    go false e nowhere w = λ q a b. ⊎_elim (λ (u : s ≡ q). rw (← u) e) (λ u. w q u (omega arith)) (eq-or-lt_of_le a)
    go false e (at r) w =
        record {
          from = omega arith;
          upto = omega arith;
          passes = w.passes;
          earlier = λ q a b. ⊎_elim (λ (u : s ≡ q). rw (← u) e) (λ u. w.earlier q u b) (eq-or-lt_of_le a);
        }

pub first-start : (P : ℕ → Type 0) (f : ℕ → Bool) (first last : ℕ) → ((s : ℕ) → P s ↔ (f s ≡ true))
    → FirstStart P first last (first_of f first last)
first-start P f first last w = go (first_of f first last) (search-finds f first (suc last - first))
  where
    go : (o : Found) → Finds f first (suc last - first) o → FirstStart P first last o
    go nowhere v = λ q a b p. true≢false (sym ((w q).0 p) ∙ v q a (omega arith))
    go (at s) v =
        record {
          from = v.from;
          upto = omega arith;
          holds = (w s).1 v.passes;
          earlier = λ q a b p. true≢false (sym ((w q).0 p) ∙ v.earlier q a b);
        }

answers-start : (P : ℕ → Type 0) (first last s : ℕ) → First P first last s → AnswersFirst P first last (Booked s)
answers-start P first last s v =
    record {
      either = inl refl;
      booked = λ e. (s, refl, v);
      refused = (λ e. absurd (omega arith), λ n. absurd (n s v.from v.upto v.holds));
    }

answers-none : (P : ℕ → Type 0) (first last : ℕ) → None P first last → AnswersFirst P first last (Refused no_start)
answers-none P first last v =
    record { either = inr refl; booked = λ e. absurd (omega arith); refused = (λ e. v, λ n. refl) }

-- the desk's, on any lent day
pub book-first : (S : Setting) (d : State) (q : Request) → refusal (book_questions S d q) ≡ 0
    → AnswersFirst (FitsAt S (standing d) q) q.first q.last (book_call S d q).answer
unfolding book_call start_of
book-first S d q e =
    rw e (go (start_of S d q) (first-start (FitsAt S (standing d) q) _ q.first q.last (λ s. fits_iff S (standing d ++ (record_of q s ∷ [])))))
  where
    go : (o : Found) → FirstStart (FitsAt S (standing d) q) q.first q.last o
        → AnswersFirst (FitsAt S (standing d) q) q.first q.last (book_with S d q 0 o).answer
    go nowhere v = answers-none (FitsAt S (standing d) q) q.first q.last v
    go (at s) v = answers-start (FitsAt S (standing d) q) q.first q.last s v

-- the plain day's, by any decision of what fits
does-iff : {A : Type 0} (d : Dec A) → A ↔ (does d ≡ true)
does-iff (yes a) = (λ b. refl, λ e. a)
does-iff (no k) = (λ b. absurd (k b), λ e. absurd (true≢false (sym e)))

pub plain-first : (S : Setting) (places : ℕ) (fits : (bs : List Booking) → Dec (Fits S bs)) (s : PlainDay) (q : Request)
    → plain_number S places fits s (booking q) ≡ 0
    → AnswersFirst (FitsAt S s.standing q) q.first q.last (plain_call S places fits s (booking q)).answer
plain-first S places fits s q e =
    rw e
    (go (plain_start S places fits s q)
    (first-start (FitsAt S s.standing q) _ q.first q.last (λ x. does-iff (fits (s.standing ++ (record_of q x ∷ []))))))
  where
    go : (o : Found) → FirstStart (FitsAt S s.standing q) q.first q.last o
        → AnswersFirst (FitsAt S s.standing q) q.first q.last (plain_book S places fits s q 0 o).answer
    go nowhere v = answers-none (FitsAt S s.standing q) q.first q.last v
    go (at x) v = answers-start (FitsAt S s.standing q) q.first q.last x v
