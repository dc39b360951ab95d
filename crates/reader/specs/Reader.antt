-- The film reader. Document 01: "A film reader is lent the file's bytes and moves on entry by entry, giving each film's number and
-- n; after the last it says that there is no more, and stays there. It starts only on an accepted file."
use Rattle.std.specs.Prelude.{◌≡◌, cond, List, [], ◌∷◌, ℕ, zero, suc, ◌+◌, eqb, Option, Some, None, Result, Ok, Err}
use Rattle.laws.specs.Questions.{Question, Answers}
use Rattle.films.specs.Layout.{Film, rounds}
use Rattle.films.specs.Questions.{verdict}
use Rattle.films.specs.Decode.{films_of}
use Rattle.limits.specs.Numbered.{answer_number}
use Rattle.reader.specs.declared.cursor.Reader.{Reader}
use Rattle.reader.specs.declared.cursor.Entry.{Entry}

-- what a reader gives, and the reader moved on
pub record Step : Type 0 where
  pub entry : Result (Option Entry) ℕ
  pub reader : Reader

-- "It starts only on an accepted file": on another it carries the number
unfoldable pub start_of : List ℕ → Reader
start_of s = record { refusal = verdict s; position = 0 }

-- "each film's number and n"
abbrev pub entry_of : Film → Entry
entry_of f = record { number = f.number; rounds = rounds f }

-- what stands at a position, for any position
abbrev pub entry_at : List Film → ℕ → Option Entry
entry_at [] p = None
entry_at (f ∷ fs) zero = Some (entry_of f)
entry_at (f ∷ fs) (suc p) = entry_at fs p

-- "moves on entry by entry"; without an entry it "stays there"
abbrev pub moved : Option Entry → Reader → Reader
moved (Some entry) r = record { refusal = r.refusal; position = r.position + 1 }
moved None r = r

unfoldable pub step_of : List ℕ → Reader → Step
step_of s r =
    cond (eqb r.refusal 0)
    (record { entry = Ok (entry_at (films_of s) r.position); reader = moved (entry_at (films_of s) r.position) r })
    (record { entry = Err r.refusal; reader = r })

-- "each film's number and n" at a position, none past the last
abbrev pub values_at : List Film → ℕ → List ℕ
values_at [] p = []
values_at (f ∷ fs) zero = f.number ∷ rounds f ∷ []
values_at (f ∷ fs) (suc p) = values_at fs p

-- the file's questions, by the number that the reader carries
abbrev pub carried : Reader → List Question
carried r = (eqb r.refusal 0, r.refusal) ∷ []

-- the paper's values of what a reader gives
abbrev pub entry_values : Result (Option Entry) ℕ → List ℕ
entry_values (Ok (Some entry)) = entry.number ∷ entry.rounds ∷ []
entry_values (Ok None) = []
entry_values (Err refusal) = []

-- what a call gives: the step, and by its number and values what document 01 says
abbrev pub Gives : List ℕ → Reader → Step → Type 0
Gives s r e = (e ≡ step_of s r) × Answers (carried r) (values_at (films_of s) r.position) (answer_number e.entry) (entry_values e.entry)
