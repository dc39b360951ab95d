-- Play's own questions. Document 01, 'Questions at the counter': "Is `now` below T? 23. Does the report take every open film? 11."
use Rattle.std.specs.Prelude.{List, [], ◌∷◌, ℕ, leb, ltb}
use Rattle.limits.specs.Refusals.{no_room, day_over}
use Rattle.laws.specs.Questions.{Question}

-- of numbers: the model's by computation
unfoldable pub own_asks : ℕ → ℕ → ℕ → ℕ → List Question
own_asks now rounds films room = (ltb now rounds, day_over) ∷ (leb films room, no_room) ∷ []
