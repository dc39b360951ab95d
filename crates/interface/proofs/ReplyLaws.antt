-- What a call answers, as plain numbers: the paper's number and values of its answer, and the day after it.
use Rattle.std.specs.Prelude.{◌≡◌, refl, [], ◌∷◌, ℕ}
use Rattle.model.specs.Answers.{number_of, values_of}
use Rattle.model.specs.declared.Answer.{Answer}
use Rattle.model.specs.declared.Answer.TheVariants.{Refused, Opened, Booked, Dropped, Played}
use Rattle.model.specs.declared.Day.{Day}
use Rattle.interface.specs.Reply.{reply_of}

-- ---- the paper's number and values of the answer are in it, and the day

pub reply-number : (a : Answer) (day : Day) → (reply_of a day).refusal ≡ number_of a
reply-number (Refused k) day = refl
reply-number Opened day = refl
reply-number (Booked s) day = refl
reply-number Dropped day = refl
reply-number (Played n c) day = refl

pub reply-day : (a : Answer) (day : Day) → (reply_of a day).day ≡ day
reply-day (Refused k) day = refl
reply-day Opened day = refl
reply-day (Booked s) day = refl
reply-day Dropped day = refl
reply-day (Played n c) day = refl

pub reply-booked : (s : ℕ) (day : Day) → (reply_of (Booked s) day).start ∷ [] ≡ values_of (Booked s)
reply-booked s day = refl

pub reply-played : (n c : ℕ) (day : Day) → (reply_of (Played n c) day).films ∷ (reply_of (Played n c) day).cabs ∷ [] ≡ values_of (Played n c)
reply-played n c day = refl
