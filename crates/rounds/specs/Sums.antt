-- The load of a round, booking by booking.
use Rattle.std.specs.Prelude.{Bool, cond, ◌&&◌, List, [], ◌∷◌, ℕ, ◌+◌, ◌^◌, ◌<◌, leb, ltb, get_or}
use Rattle.std.specs.Int.Bits.{bit_and, bit_or}
use Rattle.load.specs.Stream.{end_of, holds_in}
use Rattle.load.specs.declared.stream.Stream.{Stream}
use Rattle.rounds.specs.Rows.{BlockOf}
use Rattle.rounds.specs.declared.block.Block.{Block}
use Rattle.rounds.specs.declared.sums.Head.{Head}
use Rattle.rounds.specs.declared.sums.Sums.{Sums}

-- the words of a row before those of the rounds, by name
abbrev pub head_from : Stream → Head
head_from x = record { start = x.start; shows = x.start + x.prefetch; end = end_of x; reserve = x.reserve; cabs = x.cabs }

-- and where they stand
abbrev pub head_at : List ℕ → ℕ → Head
head_at words k =
    record {
      start = get_or words k 0;
      shows = get_or words (k + 1) 0;
      end = get_or words (k + 2) 0;
      reserve = get_or words (k + 3) 0;
      cabs = get_or words (k + 4) 0;
    }

-- "A booking is open in rounds s to s+p+n-1."
unfoldable pub open_head : ℕ → Head → Bool
open_head t h = leb h.start t && ltb t h.end

-- the cabs that an open booking keeps busy: none before it shows
unfoldable pub busy_head : ℕ → Head → ℕ
busy_head t h = cond (ltb t h.shows) 0 h.cabs

-- the sums of no booking
abbrev pub none : Sums
none = record { films = 0; reserves = 0; held = 0; taken = 0; twice = 0 }

-- with one more that is open in round t and holds `held` bytes
abbrev pub added : ℕ → Sums → Head → ℕ → Sums
added t s h held =
    record {
      films = s.films + 1;
      reserves = s.reserves + h.reserve;
      held = s.held + held;
      taken = bit_or s.taken (busy_head t h);
      twice = bit_or s.twice (bit_and s.taken (busy_head t h));
    }

-- one that is not open adds nothing
unfoldable pub with_one : ℕ → Sums → Head → ℕ → Sums
with_one t s h held = cond (open_head t h) (added t s h held) s

-- the sums s of round t, and the bookings xs
abbrev pub sums_from : List ℕ → ℕ → Sums → List Stream → Sums
sums_from f t s [] = s
sums_from f t s (x ∷ xs) = sums_from f t (with_one t s (head_from x) (holds_in f t x)) xs

-- the sums of round t over the bookings xs
abbrev pub sums_in : List ℕ → ℕ → List Stream → Sums
sums_in f t xs = sums_from f t none xs

-- ---- what is asked

-- no sum grows too large
pub record RoomFor (s : Sums) (h : Head) (bytes : ℕ) : Type 0 where
  pub films : s.films < 2 ^ 32
  pub reserves : s.reserves + h.reserve < 2 ^ 63
  pub held : s.held + bytes < 2 ^ 63

-- the words are those of a block of some bookings
abbrev pub IsBlock : Block → List ℕ → Type 0
IsBlock b words = (f : List ℕ) × (ys : List Stream) × BlockOf f ys b words
