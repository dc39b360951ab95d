-- What a call answers, as plain numbers: the paper's number and values of its answer, and the day after it.
use Rattle.std.specs.Prelude.{ℕ}
use Rattle.model.specs.declared.Answer.{Answer}
use Rattle.model.specs.declared.Answer.TheVariants.{Refused, Opened, Booked, Dropped, Played}
use Rattle.model.specs.declared.Day.{Day}
use Rattle.interface.specs.declared.reply.Reply.{Reply}

abbrev pub numbers : ℕ → ℕ → ℕ → ℕ → Day → Reply
numbers refusal start films cabs day = record { refusal = refusal; start = start; films = films; cabs = cabs; day = day }

-- what the answer does not give is 0
abbrev pub reply_of : Answer → Day → Reply
reply_of (Refused k) day = numbers k 0 0 0 day
reply_of Opened day = numbers 0 0 0 0 day
reply_of (Booked s) day = numbers 0 s 0 0 day
reply_of Dropped day = numbers 0 0 0 0 day
reply_of (Played n c) day = numbers 0 0 n c day
