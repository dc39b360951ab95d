-- Film 1 of document 01, booked at rounds 0 and 3 with p 1 and b 6, by computation.
use Rattle.std.specs.Prelude.{◌≡◌, refl, true, false, List, [], ◌∷◌, ℕ}
use Rattle.model.specs.Calls.{per_round}
use Rattle.loss.specs.Loss.{table, loss_at}
use Rattle.load.specs.Stream.{open_in, shows_in, open_count, reserved_in, held_in}
use Rattle.load.specs.declared.stream.Stream.{Stream}
use Rattle.rounds.specs.Rows.{open_between, active, row_of}
use Rattle.rounds.specs.Sums.{open_head, busy_head, with_one, sums_in}
use Rattle.rounds.specs.Kept.{kept_in}

-- the bytes of its sizes: 8, 8, 8, 2, 6, 4
abbrev sizes1 : List ℕ
sizes1 = 8 ∷ 0 ∷ 0 ∷ 0 ∷ 8 ∷ 0 ∷ 0 ∷ 0 ∷ 8 ∷ 0 ∷ 0 ∷ 0 ∷ 2 ∷ 0 ∷ 0 ∷ 0 ∷ 6 ∷ 0 ∷ 0 ∷ 0 ∷ 4 ∷ 0 ∷ 0 ∷ 0 ∷ []

abbrev at0 : Stream
at0 = record { at = 0; rounds = 6; start = 0; prefetch = 1; reserve = 6; cabs = 1 }

abbrev at3 : Stream
at3 = record { at = 0; rounds = 6; start = 3; prefetch = 1; reserve = 6; cabs = 2 }

abbrev both : List Stream
both = at0 ∷ at3 ∷ []

pub record SheetFigures : Type 0 where
  -- the first twelve rounds of the sheet
  pub films : per_round (λ t. open_count t both) 0 12 ≡ 1 ∷ 1 ∷ 1 ∷ 2 ∷ 2 ∷ 2 ∷ 2 ∷ 1 ∷ 1 ∷ 1 ∷ 0 ∷ 0 ∷ []
  pub reserves : per_round (λ t. reserved_in t both) 0 12 ≡ 6 ∷ 6 ∷ 6 ∷ 12 ∷ 12 ∷ 12 ∷ 12 ∷ 6 ∷ 6 ∷ 6 ∷ 0 ∷ 0 ∷ []
  pub helds : per_round (λ t. held_in sizes1 t both) 0 12 ≡ 6 ∷ 12 ∷ 10 ∷ 14 ∷ 14 ∷ 16 ∷ 12 ∷ 2 ∷ 6 ∷ 4 ∷ 0 ∷ 0 ∷ []
  -- round 5: two films open, both showing, on cabs 1 and 2
  pub sums : sums_in sizes1 5 both ≡ record { films = 2; reserves = 12; held = 16; taken = 3; twice = 0 }
  -- "held ≤ M": 16 are held in round 5
  pub enough : kept_in sizes1 loss_at 141433 16 both 5 ≡ true
  pub too-little : kept_in sizes1 loss_at 141433 15 both 5 ≡ false
  -- "reserves + loss(films open) ≤ D": 12 and 141,421
  pub disk : kept_in sizes1 loss_at 141432 16 both 5 ≡ false
  -- "Round s+p+n is free of it."
  pub block : active 7 9 both ≡ at3 ∷ []
  pub row : row_of sizes1 7 2 at3 ≡ 3 ∷ 4 ∷ 10 ∷ 6 ∷ 2 ∷ 2 ∷ 6 ∷ []

pub sheet-figures : SheetFigures
unfolding open_in shows_in open_between open_head busy_head with_one kept_in table
sheet-figures =
    record {
      films = refl;
      reserves = refl;
      helds = refl;
      sums = refl;
      enough = refl;
      too-little = refl;
      disk = refl;
      block = refl;
      row = refl;
    }
