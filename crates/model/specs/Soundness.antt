-- 16: "Is the list sound? (at most 256 records, within the list; names differ; each passes 8, 9, 10, 20 and 12; s+p+n ≤ T;
-- limits and cabs kept in every round)". Also the desk's test whether a list of bookings fits: FitLaws.antt proves that it
-- says exactly what `Fits` says.
use Rattle.std.specs.Prelude.{Bool, true, not, ◌&&◌, List, [], ◌∷◌, ℕ, ◌+◌, leb, eqb}
use Rattle.std.specs.Int.Bits.{bit_and, bit_or}
use Rattle.laws.specs.Tests.{all, below}
use Rattle.laws.specs.Questions.{refusal}
use Rattle.model.specs.Day.{Setting, ends, cabs_at, exists, opened, reserved, held}
use Rattle.model.specs.Questions.{has_name, record_questions}
use Rattle.model.specs.declared.Booking.{Booking}

-- "names differ"
abbrev pub names_differ : List Booking → Bool
names_differ [] = true
names_differ (b ∷ bs) = not (has_name b.name bs) && names_differ bs

module _ (S : Setting) where
  -- "each passes 8, 9, 10, 20 and 12; s+p+n ≤ T"
  unfoldable pub passes : Booking → Bool
  passes b = eqb (refusal (record_questions S b)) 0 && leb (ends S b) S.rounds

  -- no cab shows two films in round t, where the cabs `taken` are busy already
  abbrev pub apart : ℕ → ℕ → List Booking → Bool
  apart t taken [] = true
  apart t taken (b ∷ bs) = eqb (bit_and taken (cabs_at S t b)) 0 && apart t (bit_or taken (cabs_at S t b)) bs

  -- "In each round reserves + loss(films open) ≤ D and held ≤ M, and no cab shows two films."
  unfoldable pub round_kept : List Booking → ℕ → Bool
  round_kept bs t = leb (reserved S t bs + S.loss (opened S t bs)) S.disk && (leb (held S t bs) S.memory && apart t 0 bs)

  -- "limits and cabs kept in every round"
  unfoldable pub limits_kept : List Booking → Bool
  limits_kept bs = below S.rounds (round_kept bs)

  unfoldable pub sound_list : List Booking → Bool
  sound_list bs = names_differ bs && (all passes bs && limits_kept bs)

  -- the desk's test of a start
  unfoldable pub fit_test : List Booking → Bool
  fit_test bs = all (exists S) bs && limits_kept bs
