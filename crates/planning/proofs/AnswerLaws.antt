-- The answers of a call by the facts that the code's tests leave. Assumes nothing.
use Rattle.std.specs.Prelude.{◌≡◌, Bool, not, List, ◌++◌, ℕ, zero, suc, ◌+◌, ◌≤◌, ◌<◌, Ok, Err, length, drop}
use Rattle.std.proofs.Math.Path.{sym}
use Rattle.std.proofs.Common.{ap, refl, ◌∙◌, arith}
use Rattle.std.proofs.Math.Bool.{true, false}
use borrow.Author.Tests.{le-leb, lt-leb, not-true, not-false}
use Rattle.laws.specs.Questions.{refusal}
use Rattle.laws.specs.Sums.{largest}
use Rattle.limits.specs.Bounds.{max_prefetch, max_reserve}
use Rattle.limits.specs.Refusals.{prefetch_bound, reserve_bound, no_room, no_schedule, cap_bound}
use Rattle.limits.specs.declared.refusals.Refusal.{Refusal}
use Rattle.limits.specs.Refusals.{number_of}
use Rattle.limits.specs.Numbered.{numbered}
use Rattle.limits.proofs.Numbers.{number-positive}
use Rattle.retrieval.specs.Schedule.{sends}
use Rattle.retrieval.specs.JustInTime.{exists_by}
use Rattle.planning.specs.Answers.{answer_by, written_by, plan_questions, plan_totals, Planned, cap_questions}

-- ---- a schedule's questions

module _ (sizes : List ℕ) (p b places : ℕ) where
  pub plan-prefetch : max_prefetch < p → refusal (plan_questions sizes p b places) ≡ prefetch_bound
  unfolding plan_questions
  plan-prefetch h = simp (lt-leb _ _ h)

  module _ (h : p ≤ max_prefetch) where
    pub plan-reserve : max_reserve < b → refusal (plan_questions sizes p b places) ≡ reserve_bound
    unfolding plan_questions
    plan-reserve k = simp (le-leb _ _ h, lt-leb _ _ k)

    module _ (k : b ≤ max_reserve) where
      pub plan-room : places < p + length sizes → refusal (plan_questions sizes p b places) ≡ no_room
      unfolding plan_questions
      plan-room l = simp (le-leb _ _ h, le-leb _ _ k, lt-leb _ _ l)

      -- r is the answer to question 12
      pub plan-none : (r : Bool) → p + length sizes ≤ places → r ≡ exists_by b (sends p sizes) → not r ≡ true
          → refusal (plan_questions sizes p b places) ≡ no_schedule
      unfolding plan_questions
      plan-none r l e n =
          let f : exists_by b (sends p sizes) ≡ false = sym e ∙ not-true r n in
          simp (le-leb _ _ h, le-leb _ _ k, le-leb _ _ l, f)

      pub plan-passes : (r : Bool) → p + length sizes ≤ places → r ≡ exists_by b (sends p sizes) → not r ≡ false
          → refusal (plan_questions sizes p b places) ≡ 0
      unfolding plan_questions
      plan-passes r l e n =
          let t : exists_by b (sends p sizes) ≡ true = sym e ∙ not-false r n in
          simp (le-leb _ _ h, le-leb _ _ k, le-leb _ _ l, t)

-- ---- the answer, where q is the number of the first "no"

pub refused : (q value : ℕ) (r : Refusal) → q ≡ number_of r → numbered (Err r) ≡ answer_by q value
refused zero value r e = absurd (omega (arith, number-positive r))
refused (suc q) value r e = ap Err (sym e)

pub accepted : (q m value : ℕ) → q ≡ 0 → m ≡ value → numbered (Ok m) ≡ answer_by q value
accepted q m value e f = rw (e, f)

-- nothing is written where a question says no
pub unwritten : (q : ℕ) (totals out : List ℕ) (r : Refusal) → q ≡ number_of r → out ≡ written_by q totals out
unwritten zero totals out r e = absurd (omega (arith, number-positive r))
unwritten (suc q) totals out r e = refl

pub planned-refused : (sizes : List ℕ) (p b : ℕ) (out : List ℕ) (r : Refusal) → refusal (plan_questions sizes p b (length out)) ≡ number_of r
    → Planned sizes p b out (Err r) out
planned-refused sizes p b out r e = record { answer = refused _ _ r e; places = unwritten _ _ out r e }

pub planned-written : (sizes : List ℕ) (p b : ℕ) (out after : List ℕ) (m : ℕ) → refusal (plan_questions sizes p b (length out)) ≡ 0
    → length (plan_totals sizes p b) ≡ m → after ≡ plan_totals sizes p b ++ drop m out → Planned sizes p b out (Ok m) after
planned-written sizes p b out after m e l w = record { answer = accepted _ m _ e (sym l); places = rw (e, l) w }

-- ---- a least reserve's questions

module _ (sizes : List ℕ) (p cap : ℕ) where
  pub cap-prefetch : max_prefetch < p → refusal (cap_questions sizes p cap) ≡ prefetch_bound
  unfolding cap_questions
  cap-prefetch h = simp (lt-leb _ _ h)

  pub cap-small : p ≤ max_prefetch → cap < largest sizes → refusal (cap_questions sizes p cap) ≡ cap_bound
  unfolding cap_questions
  cap-small h k = simp (le-leb _ _ h, lt-leb _ _ k)

  pub cap-passes : p ≤ max_prefetch → largest sizes ≤ cap → refusal (cap_questions sizes p cap) ≡ 0
  unfolding cap_questions
  cap-passes h k = simp (le-leb _ _ h, le-leb _ _ k)
