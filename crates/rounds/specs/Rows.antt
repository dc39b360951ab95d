-- A block of coming rounds: the bookings open in one of them, and a row of words for each.
use Rattle.std.specs.Prelude.{◌≡◌, Bool, ◌&&◌, List, ◌∷◌, ℕ, ◌+◌, ◌*◌, ◌≤◌, ◌<◌, ltb, length, get_or, take, map, filter}
use Rattle.limits.specs.Bounds.{max_bookings, max_day}
use Rattle.model.specs.Calls.{per_round}
use Rattle.load.specs.Basic.{Playable, EachOf}
use Rattle.load.specs.Stream.{no_stream, end_of, holds_in}
use Rattle.load.specs.declared.stream.Stream.{Stream}
use Rattle.rounds.specs.Table.{rows_of, marked_of, streams_in}
use Rattle.rounds.specs.declared.block.Block.{Block}
use Rattle.rounds.specs.declared.marks.Marked.{Marked}

-- open in one of the rounds from `from` to `to` - 1
unfoldable pub open_between : ℕ → ℕ → Stream → Bool
open_between from to x = ltb x.start to && ltb from (end_of x)

-- the bookings that are, in their order
abbrev pub active : ℕ → ℕ → List Stream → List Stream
active from to xs = filter (open_between from to) xs

-- ---- the row of a booking

-- words of a row before those of the rounds
abbrev pub head_words : ℕ
head_words = 5

-- start, first showing round, end, reserve, cabs
abbrev pub head_of : Stream → List ℕ → List ℕ
head_of x rest = x.start ∷ (x.start + x.prefetch) ∷ end_of x ∷ x.reserve ∷ x.cabs ∷ rest

-- what it holds in each of the n rounds from `from` on
abbrev pub helds_of : List ℕ → ℕ → ℕ → Stream → List ℕ
helds_of f from n x = per_round (λ t. holds_in f t x) from n

abbrev pub row_of : List ℕ → ℕ → ℕ → Stream → List ℕ
row_of f from n x = head_of x (helds_of f from n x)

-- ---- the words of a block

-- words of all rows
abbrev pub block_words : ℕ
block_words = 3000

-- the rows of the bookings ys stand first
pub record RowsOf (f : List ℕ) (ys : List Stream) (from n count : ℕ) (words : List ℕ) : Type 0 where
  pub bookings : count ≡ length ys
  pub room : (head_words + n) * count ≤ length words
  pub rows : take ((head_words + n) * count) words ≡ rows_of (row_of f from n) ys

-- those of a block, whose bookings can be played
pub record BlockOf (f : List ℕ) (ys : List Stream) (b : Block) (words : List ℕ) : Type 0 where
  pub few : b.bookings ≤ max_bookings
  pub playable : (i : ℕ) → i < b.bookings → Playable f (get_or ys i no_stream)
  pub table : RowsOf f ys b.from b.rounds b.bookings words
  pub day : b.from + b.rounds ≤ max_day

-- ---- what is asked

-- bookings that can be played, with their marks
pub record Bookings (f : List ℕ) (bookings : List Marked) : Type 0 where
  pub few : length bookings ≤ max_bookings
  pub playable : EachOf (Playable f) (streams_in bookings)
  pub marked : bookings ≡ map (marked_of f) (streams_in bookings)

-- ---- a block that begins with round `from`

pub record Looked (f : List ℕ) (xs : List Stream) (from to : ℕ) (words : List ℕ) (b : Block) : Type 0 where
  pub first : b.from ≡ from
  pub some : 0 < b.rounds
  pub within : from + b.rounds ≤ to
  pub block : BlockOf f (active from (from + b.rounds) xs) b words
