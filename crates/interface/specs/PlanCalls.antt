-- What the call for a least reserve answers, as plain numbers: the paper's number and value of the answer, 0 where there is none.
-- Assumes nothing.
use Rattle.std.specs.Prelude.{ℕ, Result, Ok, Err}
use Rattle.interface.specs.declared.plan_calls.Reserve.{Reserve}

abbrev pub reserve_of : Result ℕ ℕ → Reserve
reserve_of (Ok b) = record { refusal = 0; bytes = b }
reserve_of (Err k) = record { refusal = k; bytes = 0 }
