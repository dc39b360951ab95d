-- One round of a film. Document 01, 'The plain day': "A(t) - A(t-1), C(t) - C(t-1), A(t) - C(t-1)", with A the just-in-time
-- schedule: what the round reads, sends and holds.
use Rattle.std.specs.Prelude.{List, ◌∷◌, ℕ, ◌-◌, min, get_or}
use Rattle.retrieval.specs.declared.Round.{Round}
use Rattle.retrieval.specs.Schedule.{totals}
use Rattle.retrieval.specs.JustInTime.{just_in_time}
use Rattle.retrieval.specs.Carry.{profile}

-- by the paper
abbrev pub rule_round : ℕ → List ℕ → ℕ → Round
rule_round b xs t =
    record {
      read = get_or (just_in_time b 0 xs) t 0 - get_or (0 ∷ just_in_time b 0 xs) t 0;
      send = get_or (totals 0 xs) t 0 - get_or (0 ∷ totals 0 xs) t 0;
      held = get_or (just_in_time b 0 xs) t 0 - get_or (0 ∷ totals 0 xs) t 0;
    }

-- by what is held: what is read is all of it, up to the reserve
abbrev pub round_of : ℕ → List ℕ → ℕ → Round
round_of b xs t =
    record { read = min b (get_or (profile b xs) t 0); send = get_or xs t 0; held = get_or (profile b xs) t 0 }
