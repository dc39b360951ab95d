-- The day sheet, summed round by round. Document 02, #107.
use Rattle.std.specs.Prelude.{◌≡◌, List, ◌++◌, ℕ, ◌+◌, ◌-◌, ◌≤◌, length, take, drop}
use Rattle.limits.specs.Bounds.{max_bookings, max_day}
use Rattle.model.specs.Calls.{per_round, worked_out}
use Rattle.load.specs.Basic.{Playable, EachOf}
use Rattle.load.specs.Stream.{open_count, reserved_in, held_in}
use Rattle.load.specs.declared.stream.Stream.{Stream}
use Rattle.rounds.specs.Rows.{BlockOf}
use Rattle.rounds.specs.Sums.{sums_in}
use Rattle.rounds.specs.declared.block.Block.{Block}
use Rattle.rounds.specs.declared.sums.Sums.{Sums}

-- a list whose places from `from` to `to` - 1 are g of their rounds, and whose others are what they held before
abbrev pub worked : ℕ → ℕ → (ℕ → ℕ) → List ℕ → List ℕ
worked from to g old = take from old ++ per_round g from (to - from) ++ drop to old

-- each list of the sheet has T places
pub record Places (T : ℕ) (opens reserves helds : List ℕ) : Type 0 where
  pub opens-places : T ≤ length opens
  pub reserves-places : T ≤ length reserves
  pub helds-places : T ≤ length helds

-- "films open, sum of reserves, sum of bytes held" of the rounds from `from` to `to` - 1 over the bookings xs, and all other places as before
pub record SheetOf (f : List ℕ) (xs : List Stream) (from to : ℕ) (opens₀ reserves₀ helds₀ opens reserves helds : List ℕ) : Type 0 where
  pub films : opens ≡ worked from to (λ t. open_count t xs) opens₀
  pub reserved : reserves ≡ worked from to (λ t. reserved_in t xs) reserves₀
  pub held : helds ≡ worked from to (λ t. held_in f t xs) helds₀

-- of all T rounds of a day, as the model works them out
pub record DaySheet (f : List ℕ) (xs : List Stream) (T : ℕ) (opens₀ reserves₀ helds₀ opens reserves helds : List ℕ) : Type 0 where
  pub films : opens ≡ worked_out T (λ t. open_count t xs) opens₀
  pub reserved : reserves ≡ worked_out T (λ t. reserved_in t xs) reserves₀
  pub held : helds ≡ worked_out T (λ t. held_in f t xs) helds₀

-- the three lists with the sums s of these rounds
pub record Summed (s : ℕ → Sums) (from to : ℕ) (opens₀ reserves₀ helds₀ opens reserves helds : List ℕ) : Type 0 where
  pub films : opens ≡ worked from to (λ t. (s t).films) opens₀
  pub reserved : reserves ≡ worked from to (λ t. (s t).reserves) reserves₀
  pub held : helds ≡ worked from to (λ t. (s t).held) helds₀

-- "once k rounds are summed, the first k places of each list hold their final sums and the others what they held before"
pub record FirstSummed (f : List ℕ) (xs : List Stream) (k : ℕ) (opens₀ reserves₀ helds₀ opens reserves helds : List ℕ) : Type 0 where
  pub films : (take k opens ≡ per_round (λ t. open_count t xs) 0 k) × (drop k opens ≡ drop k opens₀)
  pub reserved : (take k reserves ≡ per_round (λ t. reserved_in t xs) 0 k) × (drop k reserves ≡ drop k reserves₀)
  pub held : (take k helds ≡ per_round (λ t. held_in f t xs) 0 k) × (drop k helds ≡ drop k helds₀)

-- what is asked: bookings that can be played, and places for the rounds
pub record Summable (f : List ℕ) (xs : List Stream) (from to : ℕ) (opens reserves helds : List ℕ) : Type 0 where
  pub few : length xs ≤ max_bookings
  pub playable : EachOf (Playable f) xs
  pub order : from ≤ to
  pub day : to ≤ max_day
  pub places : Places to opens reserves helds

-- a block's rounds are summed, of whatever bookings its words are
abbrev pub BlockSummed : Block → List ℕ → List ℕ → List ℕ → List ℕ → List ℕ → List ℕ → List ℕ → Type 0
BlockSummed b words opens₀ reserves₀ helds₀ opens reserves helds =
    (f : List ℕ) (ys : List Stream) → BlockOf f ys b words
    → Summed (λ t. sums_in f t ys) b.from (b.from + b.rounds) opens₀ reserves₀ helds₀ opens reserves helds
