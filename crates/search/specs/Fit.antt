-- When a new stream fits at a start beside the standing ones, by the day sheet of those, and the first start of a window that
-- fits. Document 01, 'A day at the desk': "In each round reserves + loss(films open) ≤ D and held ≤ M, and no cab shows two films."
use Rattle.std.specs.Prelude.{Option, Some, None, Bool, not, ◌&&◌, List, ℕ, ◌+◌, ◌*◌, ◌^◌, ◌≤◌, ◌<◌, length, get_or, leb}
use Rattle.limits.specs.Bounds.{max_reserve, max_day, max_bookings}
use Rattle.laws.specs.Tests.{below, all}
use Rattle.loss.specs.Loss.{loss_at}
use Rattle.load.specs.Stream.{no_stream, length_of, end_of, clashes, profile_of}
use Rattle.load.specs.declared.stream.Stream.{Stream}
use Rattle.model.specs.Fit.{Found, nowhere, at}
use Rattle.model.specs.declared.Day.{Day}
use Rattle.model.specs.declared.Sheet.{Sheet}

-- what a start is tried against: the new stream, what its schedule holds in each of its rounds, the standing streams, the
-- three lists of their sheet by round, and the limits D and M
pub record Query : Type 0 where
  pub stream : Stream
  pub profile : List ℕ
  pub standing : List Stream
  pub opens : List ℕ
  pub reserves : List ℕ
  pub helds : List ℕ
  pub disk : ℕ
  pub memory : ℕ

abbrev pub query_of : Stream → List ℕ → List Stream → List ℕ → List ℕ → List ℕ → ℕ → ℕ → Query
query_of y profile xs opens reserves helds disk memory =
    record { stream = y; profile = profile; standing = xs; opens = opens; reserves = reserves; helds = helds; disk = disk; memory = memory }

-- of the new stream y beside the streams xs, where it stands in the file f, on a day with its sheet
abbrev pub query_in : List ℕ → List Stream → Stream → Day → Sheet → Query
query_in f xs y day sheet =
    query_of y (profile_of f y) xs sheet.opens.now sheet.reserves.now sheet.helds.now day.disk day.memory

-- the stream with another start
abbrev pub start_at : ℕ → Stream → Stream
start_at s y =
    record { at = y.at; rounds = y.rounds; start = s; prefetch = y.prefetch; reserve = y.reserve; cabs = y.cabs }

-- the disk can read a stream of reserve b more in round t: "reserves + loss(films open) ≤ D"
unfoldable pub disk_fits : List ℕ → List ℕ → ℕ → ℕ → ℕ → Bool
disk_fits opens reserves disk b t = leb (get_or reserves t 0 + b + loss_at (get_or opens t 0 + 1)) disk

-- memory takes what a stream from s on, with its profile, holds in round j of its own: "held ≤ M"
unfoldable pub memory_fits : List ℕ → ℕ → List ℕ → ℕ → ℕ → Bool
memory_fits helds memory profile s j = leb (get_or helds (s + j) 0 + get_or profile j 0) memory

-- "no cab shows two films": a stream y from s on clashes with no standing one
abbrev pub cabs_fit : List Stream → Stream → ℕ → Bool
cabs_fit xs y s = all (λ x. not (clashes x (start_at s y))) xs

-- the three of a query
abbrev pub disk_free : Query → ℕ → Bool
disk_free q t = disk_fits q.opens q.reserves q.disk q.stream.reserve t

abbrev pub memory_free : Query → ℕ → ℕ → Bool
memory_free q s j = memory_fits q.helds q.memory q.profile s j

abbrev pub cabs_free : Query → ℕ → Bool
cabs_free q s = cabs_fit q.standing q.stream s

-- the stream fits from s on: in each of its rounds for the disk and for memory, and with its cabs
unfoldable pub fits_at : Query → ℕ → Bool
fits_at q s =
    below (length_of q.stream) (λ j. disk_free q (s + j))
    && (below (length_of q.stream) (λ j. memory_free q s j) && cabs_free q s)

-- a start, or none, as the search gives it
abbrev pub answer_of : Found → Option ℕ
answer_of nowhere = None
answer_of (at s) = Some s

-- ---- what the search asks of its caller

-- bytes held in a round, below
abbrev pub held_limit : ℕ
held_limit = 2 ^ 62

-- the rounds below e have their places in the lists of films open and of reserves, and numbers that a day's bookings can give
-- and that leave room for one more
pub record DiskRows (opens reserves : List ℕ) (e : ℕ) : Type 0 where
  pub opens-long : e ≤ length opens
  pub reserves-long : e ≤ length reserves
  pub opens_small : (t : ℕ) → t < e → get_or opens t 0 < max_bookings
  pub reserves-small : (t : ℕ) → t < e → get_or reserves t 0 ≤ max_bookings * max_reserve

-- and so in a list of bytes held
pub record HeldRows (helds : List ℕ) (e : ℕ) : Type 0 where
  pub long : e ≤ length helds
  pub small : (t : ℕ) → t < e → get_or helds t 0 < held_limit

-- each stream ends within the day
abbrev pub EndInDay : List Stream → Type 0
EndInDay xs = (i : ℕ) → i < length xs → end_of (get_or xs i no_stream) ≤ max_day

-- every round that a start of the window covers is one of the day and of the sheet
pub record Window (q : Query) (last : ℕ) : Type 0 where
  pub day : last + length_of q.stream ≤ max_day
  pub disk : DiskRows q.opens q.reserves (last + length_of q.stream)
  pub memory : HeldRows q.helds (last + length_of q.stream)
  pub standing : EndInDay q.standing
