-- "A refusal returns its number only and changes nothing lent, except that 22 leaves the sheet of the bookings as they
-- stand." (demand 1) And what an accepted opening leaves. For every setting and everything lent and given. Assumes nothing.
use Rattle.std.specs.Prelude.{◌≡◌, refl, List, [], ◌∷◌, ◌++◌, ℕ, zero, suc, ◌<◌, length, drop, replicate}
use Rattle.std.proofs.Common.{ap, arith}
use Rattle.laws.specs.Questions.{refusal}
use Rattle.limits.specs.Refusals.{no_start}
use Rattle.model.specs.Day.{Setting, State}
use Rattle.model.specs.Fit.{Found, nowhere, at}
use Rattle.model.specs.Answers.{number_of}
use Rattle.model.specs.Calls.{per_round, worked_out, open_questions, open_with, open_call, book_questions, start_of, book_with, book_call, drop_questions, drop_with, drop_call, play_questions, play_with, play_call}
use Rattle.model.specs.declared.Request.{Request}
use Rattle.model.specs.declared.Line.{Line}
use Rattle.model.specs.Unchanged.{Empty, SheetOnly, Unchanged}

pub open-refused : (S : Setting) (d : State) → 0 < number_of (open_call S d).answer → Unchanged d [] (open_call S d)
unfolding open_call
open-refused S d = go (refusal (open_questions S d))
  where
    go : (n : ℕ) → 0 < number_of (open_with S d n).answer → Unchanged d [] (open_with S d n)
    go zero u = absurd (omega arith)
    go (suc k) u = record { state = refl; report = refl }

-- by a question before 22
pub book-refused : (S : Setting) (d : State) (q : Request) → 0 < refusal (book_questions S d q) → Unchanged d [] (book_call S d q)
unfolding book_call
book-refused S d q = go (refusal (book_questions S d q))
  where
    go : (n : ℕ) → 0 < n → Unchanged d [] (book_with S d q n (start_of S d q))
    go zero u = absurd (omega arith)
    go (suc k) u = record { state = refl; report = refl }

-- by 22
pub book-nowhere : (S : Setting) (d : State) (q : Request) → refusal (book_questions S d q) ≡ 0
    → number_of (book_call S d q).answer ≡ no_start
    → SheetOnly S d (book_call S d q)
unfolding book_call
book-nowhere S d q e = rw e (go (start_of S d q))
  where
    go : (o : Found) → number_of (book_with S d q 0 o).answer ≡ no_start → SheetOnly S d (book_with S d q 0 o)
    go (at s) u = absurd (omega arith)
    go nowhere u = record { now = refl; count = refl; places = refl; records = refl; opens = refl; reserves = refl; helds = refl }

pub drop-refused : (S : Setting) (d : State) (name : ℕ) → 0 < number_of (drop_call S d name).answer → Unchanged d [] (drop_call S d name)
unfolding drop_call
drop-refused S d name = go (refusal (drop_questions S d name))
  where
    go : (n : ℕ) → 0 < number_of (drop_with S d name n).answer → Unchanged d [] (drop_with S d name n)
    go zero u = absurd (omega arith)
    go (suc k) u = record { state = refl; report = refl }

pub play-refused : (S : Setting) (d : State) (report : List Line) → 0 < number_of (play_call S d report).answer
    → Unchanged d report (play_call S d report)
unfolding play_call
play-refused S d report = go (refusal (play_questions S d (length report)))
  where
    go : (n : ℕ) → 0 < number_of (play_with S d report n).answer → Unchanged d report (play_with S d report n)
    go zero u = absurd (omega arith)
    go (suc k) u = record { state = refl; report = refl }

-- ---- the opening

per_round-zero : (t n : ℕ) → per_round (λ r. 0) t n ≡ replicate n 0
per_round-zero t zero = refl
per_round-zero t (suc n) = ap (λ (l : List ℕ). 0 ∷ l) (per_round-zero (suc t) n)

pub open-empty : (S : Setting) (d : State) → number_of (open_call S d).answer ≡ 0 → Empty S d (open_call S d)
unfolding open_call
open-empty S d = go (refusal (open_questions S d))
  where
    zeros : (old : List ℕ) → worked_out S.rounds (λ t. 0) old ≡ replicate S.rounds 0 ++ drop S.rounds old
    zeros old = ap (λ (l : List ℕ). l ++ drop S.rounds old) (per_round-zero 0 S.rounds)

    go : (n : ℕ) → number_of (open_with S d n).answer ≡ 0 → Empty S d (open_with S d n)
    go zero u =
        record {
          now = refl;
          count = refl;
          places = refl;
          records = refl;
          opens = zeros d.opens;
          reserves = zeros d.reserves;
          helds = zeros d.helds;
        }
    go (suc k) u = absurd (omega arith)
