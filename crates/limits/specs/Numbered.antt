-- An answer with its refusal by number, as the paper and the interfaces tell it.
use Rattle.std.specs.Prelude.{ℕ, Result, Ok, Err}
use Rattle.limits.specs.Refusals.{number_of}
use Rattle.limits.specs.declared.refusals.Refusal.{Refusal}

abbrev pub numbered : {A : Type 0} → Result A Refusal → Result A ℕ
numbered (Ok value) = Ok value
numbered (Err refusal) = Err (number_of refusal)

-- its number: 0, or the refusal's
abbrev pub answer_number : {A : Type 0} → Result A ℕ → ℕ
answer_number (Ok value) = 0
answer_number (Err k) = k
