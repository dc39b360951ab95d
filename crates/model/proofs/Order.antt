-- The numbers of each call's questions, in the paper's order, and that they decide the answer (demand 1: "one refusal
-- number chosen by the fixed order of questions"). For every setting and everything lent and given. Assumes nothing.
use Rattle.std.specs.Prelude.{◌≡◌, refl, Bool, true, false, cond, List, [], ◌∷◌, ◌++◌, ℕ, zero, suc, length, ltb, eqb}
use Rattle.std.proofs.Common.{sym, arith, ltb-true}
use Rattle.std.proofs.lemmas.Bool.{eqb-false}
use Rattle.laws.specs.Tests.{left, right, all}
use Rattle.laws.specs.Questions.{Question, refusal, refusal-stands}
use Rattle.limits.specs.Refusals.{no_start}
use Rattle.model.specs.Day.{Setting, State}
use Rattle.model.specs.Fit.{Found, nowhere, at}
use Rattle.model.specs.Answers.{number_of}
use Rattle.model.specs.Questions.{record_questions, book_own, drop_own, play_own}
use Rattle.model.specs.Calls.{open_questions, open_with, open_call, book_questions, start_of, book_with, book_call, drop_questions, drop_with, drop_call, play_questions, play_with, play_call}
use Rattle.model.specs.declared.Request.{Request}
use Rattle.model.specs.declared.Line.{Line}
use Rattle.model.specs.Order.{Order, found, tail}

pub order : (S : Setting) (d : State) (q : Request) (name room : ℕ) → Order S d q name room
unfolding record_questions book_own drop_own play_own open_questions book_questions drop_questions play_questions
order S d q name room = record { opening = refl; booking = refl; last = refl; drop = refl; play = refl }

pub open-number : (S : Setting) (d : State) → number_of (open_call S d).answer ≡ refusal (open_questions S d)
unfolding open_call
open-number S d = go (refusal (open_questions S d))
  where
    go : (n : ℕ) → number_of (open_with S d n).answer ≡ n
    go zero = refl
    go (suc k) = refl

-- where no question says no, those that follow decide, as every "no" has a number
numbered : List Question → Bool
numbered qs = all (λ q. ltb 0 q.1) qs

numbered-then : (qs rs : List Question) → numbered qs ≡ true → refusal qs ≡ 0 → refusal (qs ++ rs) ≡ refusal rs
unfolding numbered
numbered-then [] rs n e = refl
numbered-then (q ∷ qs) rs n e = go q.0 e (numbered-then qs rs (right (ltb 0 q.1) n))
  where
    go : (b : Bool) → cond b (refusal qs) q.1 ≡ 0 → (refusal qs ≡ 0 → refusal (qs ++ rs) ≡ refusal rs)
        → cond b (refusal (qs ++ rs)) q.1 ≡ refusal rs
    go true u i = i u
    go false u i = absurd (omega (arith, ltb-true 0 q.1 (left (ltb 0 q.1) (all (λ p. ltb 0 p.1) qs) n)))

book-then : (S : Setting) (d : State) (q : Request) (rs : List Question) → refusal (book_questions S d q) ≡ 0
    → refusal (book_questions S d q ++ rs) ≡ refusal rs
unfolding numbered record_questions book_own book_questions
book-then S d q rs e = go (eqb S.verdict 0) refl e
  where
    later : List Question
    later = tail (book_questions S d q)

    go : (b : Bool) → eqb S.verdict 0 ≡ b → cond b (refusal later) S.verdict ≡ 0
        → cond b (refusal (later ++ rs)) S.verdict ≡ refusal rs
    go true u w = numbered-then later rs refl w
    go false u w = absurd (eqb-false S.verdict 0 u w)

-- 22 is asked last
pub book-number : (S : Setting) (d : State) (q : Request)
    → number_of (book_call S d q).answer ≡ refusal (book_questions S d q ++ (found (start_of S d q), no_start) ∷ [])
unfolding book_call
book-number S d q = go (refusal (book_questions S d q)) refl (start_of S d q)
  where
    go : (n : ℕ) → refusal (book_questions S d q) ≡ n → (o : Found)
        → number_of (book_with S d q n o).answer ≡ refusal (book_questions S d q ++ (found o, no_start) ∷ [])
    go zero e nowhere = sym (book-then S d q ((false, no_start) ∷ []) e)
    go zero e (at s) = sym (book-then S d q ((true, no_start) ∷ []) e)
    go (suc k) e o = sym (refusal-stands (book_questions S d q) ((found o, no_start) ∷ []) k e)

pub drop-number : (S : Setting) (d : State) (name : ℕ) → number_of (drop_call S d name).answer ≡ refusal (drop_questions S d name)
unfolding drop_call
drop-number S d name = go (refusal (drop_questions S d name))
  where
    go : (n : ℕ) → number_of (drop_with S d name n).answer ≡ n
    go zero = refl
    go (suc k) = refl

pub play-number : (S : Setting) (d : State) (report : List Line)
    → number_of (play_call S d report).answer ≡ refusal (play_questions S d (length report))
unfolding play_call
play-number S d report = go (refusal (play_questions S d (length report)))
  where
    go : (n : ℕ) → number_of (play_with S d report n).answer ≡ n
    go zero = refl
    go (suc k) = refl
