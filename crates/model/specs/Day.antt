-- A day: what every call is given, what is lent from call to call, a booking's rounds, and the load of a round. Document
-- 01, 'A day at the desk'.
use Rattle.std.specs.Prelude.{Bool, cond, ◌&&◌, List, [], ◌∷◌, ℕ, ◌+◌, ◌-◌, length, get_or, leb, ltb}
use Rattle.laws.specs.Bits.{bit}
use Rattle.films.specs.Layout.{Film, sizes_of}
use Rattle.retrieval.specs.Schedule.{sends, helds}
use Rattle.retrieval.specs.JustInTime.{just_in_time, exists_by}
use Rattle.model.specs.declared.Booking.{Booking}
use Rattle.model.specs.declared.Request.{Request}

-- what the calls of a day are given and none changes: the film file's verdict (0, or the number of the file's question that
-- says no) and its films, the disk loss by the number of films open, and the day's T, D and M
pub record Setting : Type 0 where
  pub verdict : ℕ
  pub films : List Film
  pub loss : ℕ → ℕ
  pub rounds : ℕ
  pub disk : ℕ
  pub memory : ℕ

-- what is lent from call to call: the current round `now`, the number of records, the length of the list of records, its
-- places, and the day sheet's "three lists by round: films open, sum of reserves, sum of bytes held". No place after
-- the first 256 is ever used, so `records` may leave those out.
pub record State : Type 0 where
  pub now : ℕ
  pub count : ℕ
  pub places : ℕ
  pub records : List Booking
  pub opens : List ℕ
  pub reserves : List ℕ
  pub helds : List ℕ

-- the record of a booking that is asked for, at a start
abbrev pub record_of : Request → ℕ → Booking
record_of q s = record { name = q.name; film = q.film; start = s; prefetch = q.prefetch; reserve = q.reserve; cabs = q.cabs }

-- the sum of a number of each booking
abbrev pub total : (Booking → ℕ) → List Booking → ℕ
total f [] = 0
total f (b ∷ bs) = f b + total f bs

module _ (S : Setting) where
  -- what a booking sends in each of its rounds: its film's sizes after p rounds of nothing
  abbrev pub sending : Booking → List ℕ
  sending b = sends b.prefetch (sizes_of S.films b.film)

  -- "Round s+p+n is free of it."
  abbrev pub ends : Booking → ℕ
  ends b = b.start + b.prefetch + length (sizes_of S.films b.film)

  -- "A booking is open in rounds s to s+p+n-1."
  unfoldable pub open_at : ℕ → Booking → Bool
  open_at t b = leb b.start t && ltb t (ends b)

  -- "It shows in rounds s+p to s+p+n-1"
  unfoldable pub shows_at : ℕ → Booking → Bool
  shows_at t b = leb (b.start + b.prefetch) t && ltb t (ends b)

  -- "and only there are its cabs busy": the cabs that it keeps busy in round t
  abbrev pub cabs_at : ℕ → Booking → ℕ
  cabs_at t b = cond (shows_at t b) b.cabs 0

  -- ---- a booking's schedule

  -- its read totals by the schedule rule
  abbrev pub schedule_of : Booking → List ℕ
  schedule_of b = just_in_time b.reserve 0 (sending b)

  -- "A schedule exists exactly if this gives A(0) ≤ b." (FitLaws.antt, `exists_iff`: exactly if some list is one)
  unfoldable pub exists : Booking → Bool
  exists b = exists_by b.reserve (sending b)

  -- what it holds in round t with the read totals A
  abbrev pub held_at : ℕ → Booking → List ℕ → ℕ
  held_at t b A = cond (open_at t b) (get_or (helds 0 (sending b) A) (t - b.start) 0) 0

  -- ---- the load of round t

  -- films open
  abbrev pub opened : ℕ → List Booking → ℕ
  opened t = total (λ b. cond (open_at t b) 1 0)

  -- sum of reserves
  abbrev pub reserved : ℕ → List Booking → ℕ
  reserved t = total (λ b. cond (open_at t b) b.reserve 0)

  -- sum of bytes held, each booking with its schedule by the rule
  abbrev pub held : ℕ → List Booking → ℕ
  held t = total (λ b. held_at t b (schedule_of b))

  -- how many show on cab k
  abbrev pub showing : ℕ → ℕ → List Booking → ℕ
  showing k t = total (λ b. bit k (cabs_at t b))
