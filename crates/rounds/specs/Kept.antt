-- Question 16's last part: "limits and cabs kept in every round". `loss` is the disk loss by the number of films open.
use Rattle.std.specs.Prelude.{◌≡◌, Bool, true, cond, ◌&&◌, List, [], ◌∷◌, ℕ, zero, suc, ◌+◌, ◌≤◌, ◌<◌, leb, eqb, length, get_or}
use Rattle.std.specs.Int.Bits.{bit_and, bit_or}
use Rattle.laws.specs.Tests.{all, below}
use Rattle.retrieval.specs.JustInTime.{exists_by}
use Rattle.limits.specs.Bounds.{max_bookings, max_day}
use Rattle.loss.specs.Loss.{loss_at}
use Rattle.load.specs.Basic.{Playable, EachOf}
use Rattle.load.specs.Stream.{shows_in, open_count, reserved_in, held_in, sends_of}
use Rattle.load.specs.declared.stream.Stream.{Stream}
use Rattle.rounds.specs.Rows.{BlockOf}
use Rattle.rounds.specs.Sums.{sums_in}
use Rattle.rounds.specs.declared.block.Block.{Block}
use Rattle.rounds.specs.declared.sums.Sums.{Sums}

-- the cabs that a booking keeps busy in round t
abbrev pub cabs_in : ℕ → Stream → ℕ
cabs_in t x = cond (shows_in t x) x.cabs 0

-- no cab shows two films in round t, where the cabs `taken` are busy already
abbrev pub apart_in : ℕ → ℕ → List Stream → Bool
apart_in t taken [] = true
apart_in t taken (x ∷ xs) = eqb (bit_and taken (cabs_in t x)) 0 && apart_in t (bit_or taken (cabs_in t x)) xs

-- "In each round reserves + loss(films open) ≤ D and held ≤ M, and no cab shows two films."
unfoldable pub kept_in : List ℕ → (ℕ → ℕ) → ℕ → ℕ → List Stream → ℕ → Bool
kept_in f loss D M xs t = leb (reserved_in t xs + loss (open_count t xs)) D && (leb (held_in f t xs) M && apart_in t 0 xs)

-- 12: "Does a schedule exist?"
unfoldable pub feasible : List ℕ → Stream → Bool
feasible f x = exists_by x.reserve (sends_of f x)

-- each booking has a schedule, and every round of a day of T rounds is kept
abbrev pub streams_kept : List ℕ → (ℕ → ℕ) → ℕ → ℕ → ℕ → List Stream → Bool
streams_kept f loss T D M xs = all (feasible f) xs && below T (kept_in f loss D M xs)

-- the same of a round's sums
unfoldable pub sums_kept : (ℕ → ℕ) → ℕ → ℕ → Sums → Bool
sums_kept loss D M s = leb (s.reserves + loss s.films) D && (leb s.held M && eqb s.twice 0)

-- the test passes in each of the n rounds from t on
abbrev pub in_rounds : ℕ → ℕ → (ℕ → Bool) → Bool
in_rounds t zero p = true
in_rounds t (suc n) p = p t && in_rounds (suc t) n p

-- ---- the loss of each number of films that may be open, in a list

abbrev pub loss_in : List ℕ → ℕ → ℕ
loss_in losses k = get_or losses k 0

pub record Losses (losses : List ℕ) : Type 0 where
  pub size : max_bookings < length losses
  pub loss : (k : ℕ) → k ≤ max_bookings → loss_in losses k ≡ loss_at k

-- r says whether a block's rounds are kept, of whatever bookings its words are
abbrev pub BlockKept : Block → List ℕ → List ℕ → ℕ → ℕ → Bool → Type 0
BlockKept b words losses D M r =
    (f : List ℕ) (ys : List Stream) → BlockOf f ys b words → r ≡ in_rounds b.from b.rounds (λ t. sums_kept (loss_in losses) D M (sums_in f t ys))

-- what is asked: bookings that can be played, in a day
pub record Testable (f : List ℕ) (xs : List Stream) (T : ℕ) : Type 0 where
  pub few : length xs ≤ max_bookings
  pub playable : EachOf (Playable f) xs
  pub day : T ≤ max_day
