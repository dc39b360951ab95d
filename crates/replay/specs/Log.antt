-- The log of a replay: for each entry three words, the refusal's number or 0 and what an accepted call gives, and after a played
-- round four words for each line of its report.
use Rattle.std.specs.Prelude.{◌≡◌, List, [], ◌∷◌, ◌++◌, ℕ, ◌+◌, length, take, drop}
use Rattle.model.specs.declared.Line.{Line}
use Rattle.model.specs.declared.Answer.{Answer}
use Rattle.model.specs.declared.Answer.TheVariants.{Refused, Opened, Booked, Dropped, Played}
use Rattle.replay.specs.declared.log.Log.{Log}

-- booked: the start; played: the films open and the cabs served
abbrev pub answer_words : Answer → List ℕ
answer_words (Refused k) = k ∷ 0 ∷ 0 ∷ []
answer_words Opened = 0 ∷ 0 ∷ 0 ∷ []
answer_words (Booked s) = 0 ∷ s ∷ 0 ∷ []
answer_words Dropped = 0 ∷ 0 ∷ 0 ∷ []
answer_words (Played films cabs) = 0 ∷ films ∷ cabs ∷ []

abbrev pub line_words : Line → List ℕ
line_words x = x.name ∷ x.read ∷ x.send ∷ x.held ∷ []

abbrev pub lines_words : List Line → List ℕ
lines_words [] = []
lines_words (x ∷ ls) = line_words x ++ lines_words ls

-- an entry's words
abbrev pub logged_words : Answer → List Line → List ℕ
logged_words answer lines = answer_words answer ++ lines_words lines

-- the words were written from `at` on, what stands before and after them is as it was, and `next` is the place after them
pub record Wrote (old : List ℕ) (at : ℕ) (words new : List ℕ) (next : ℕ) : Type 0 where
  pub log : new ≡ take at old ++ words ++ drop (at + length words) old
  pub place : next ≡ at + length words

-- the words were appended to a log, which is the lent list that it was
pub record Appended (before : Log) (words : List ℕ) (after : Log) : Type 0 where
  pub wrote : Wrote before.words.now before.at words after.words.now after.at
  pub same-list : after.words.ghost_name ≡ before.words.ghost_name
