-- Every report is within the limits: an open booking reads at most its reserve, and holds what its schedule holds. Assumes
-- what `Accepted` says.
use Rattle.std.specs.Prelude.{◌≡◌, refl, Bool, true, false, cond, List, [], ◌∷◌, map, ℕ, zero, suc, ◌+◌, ◌-◌, ◌≤◌, ◌<◌, length, get_or}
use Rattle.std.proofs.Common.{sym, arith}
use Rattle.laws.specs.Tests.{left, right, all}
use Rattle.retrieval.specs.Schedule.{helds}
use Rattle.retrieval.proofs.Laws.{just_in_time-schedule, length-just_in_time, helds-at}
use Rattle.model.specs.Day.{Setting, State, sending, open_at, schedule_of, exists, reserved, held}
use Rattle.model.specs.Fit.{Fits, Found, nowhere, at}
use Rattle.model.specs.Report.{line_of, lines_of, sum_read, sum_held, Within, EachWithin}
use Rattle.model.specs.Calls.{Call, booking, dropping, playing}
use Rattle.model.specs.PlainDay.{PlainDay, plain_book, plain_drop, plain_play, plain_call, plain_reports}
use Rattle.model.specs.Expected.{arguments_of}
use Rattle.model.proofs.FitLaws.{place, exists-carry, round-says, limits-round}
use Rattle.model.specs.SoundLaws.{Sound}
use Rattle.model.proofs.SoundLaws.{sound-exist}
use Rattle.model.proofs.PlayLaws.{lines-count}
use Rattle.model.specs.Steps.{Accepted, Good}
use Rattle.model.proofs.Steps.{step, in-time}
use Rattle.model.specs.declared.Booking.{Booking}
use Rattle.model.specs.declared.Request.{Request}

module _ (S : Setting) where
  -- an open booking reads at most its reserve, and holds what its schedule holds
  line_read : (t : ℕ) (b : Booking) → exists S b ≡ true → open_at S t b ≡ true → (line_of S t b).read ≤ b.reserve
  line_read t b x o =
      let s = just_in_time-schedule b.reserve (sending S b) (exists-carry S b x) in
      let p = (place S t b o).1 in
      omega (arith, s.paced (t - b.start) (omega (arith, s.rounds)))

  line-held : (t : ℕ) (b : Booking) → open_at S t b ≡ true
      → (line_of S t b).held ≡ get_or (helds 0 (sending S b) (schedule_of S b)) (t - b.start) 0
  line-held t b o =
      sym (helds-at 0 (sending S b) (schedule_of S b) (t - b.start) (length-just_in_time b.reserve 0 (sending S b)) (place S t b o).1)

  reads-reserved : (t : ℕ) (bs : List Booking) → all (exists S) bs ≡ true → sum_read (lines_of S t bs) ≤ reserved S t bs
  reads-reserved t [] x = omega arith
  reads-reserved t (b ∷ bs) x =
      go (open_at S t b) (line_read t b (left (exists S b) (all (exists S) bs) x)) (reads-reserved t bs (right (exists S b) x))
    where
      go : (o : Bool) → (o ≡ true → (line_of S t b).read ≤ b.reserve) → sum_read (lines_of S t bs) ≤ reserved S t bs
          → sum_read (cond o (line_of S t b ∷ lines_of S t bs) (lines_of S t bs)) ≤ cond o b.reserve 0 + reserved S t bs
      go true f i = omega (arith, f refl)
      go false f i = omega arith

  helds-held : (t : ℕ) (bs : List Booking) → sum_held (lines_of S t bs) ≡ held S t bs
  helds-held t [] = refl
  helds-held t (b ∷ bs) = go (open_at S t b) (line-held t b) (helds-held t bs)
    where
      kept : ℕ
      kept = get_or (helds 0 (sending S b) (schedule_of S b)) (t - b.start) 0

      go : (o : Bool) → (o ≡ true → (line_of S t b).held ≡ kept) → sum_held (lines_of S t bs) ≡ held S t bs
          → sum_held (cond o (line_of S t b ∷ lines_of S t bs) (lines_of S t bs)) ≡ cond o kept 0 + held S t bs
      go true f i = omega (arith, f refl)
      go false f i = omega arith

  pub lines-within : (bs : List Booking) (t : ℕ) → Sound S bs → t < S.rounds → Within S (lines_of S t bs)
  lines-within bs t s e =
      let r = round-says S bs t (limits-round S bs s.kept t e) in
      record {
        disk = rw (lines-count S t bs) (omega (arith, r.disk, reads-reserved t bs (sound-exist S bs s)));
        memory = omega (arith, r.memory, helds-held t bs);
      }

module _ (S : Setting) (lent : State) (fits : (bs : List Booking) → Dec (Fits S bs)) (accepted : Accepted S lent) where
  empty-within : Within S []
  empty-within = record { disk = omega (arith, accepted.rising.none); memory = omega arith }

  play-within : (s : PlainDay) (n : ℕ) → Sound S s.standing → (n ≡ 0 → s.round < S.rounds)
      → Within S (plain_play S lent.places fits s n).lines
  play-within s zero g f = lines-within S s.standing s.round g (f refl)
  play-within s (suc k) g f = empty-within

  book-lines : (s : PlainDay) (q : Request) (n : ℕ) (o : Found) → (plain_book S lent.places fits s q n o).lines ≡ []
  book-lines s q zero nowhere = refl
  book-lines s q zero (at x) = refl
  book-lines s q (suc k) o = refl

  drop-lines : (s : PlainDay) (name n : ℕ) → (plain_drop S lent.places fits s name n).lines ≡ []
  drop-lines s name zero = refl
  drop-lines s name (suc k) = refl

  call-within : (s : PlainDay) (m : ℕ) (c : Call) → Good S lent fits accepted s m
      → Within S (plain_call S lent.places fits s (arguments_of c)).lines
  call-within s m (booking q) g = rw (book-lines s q _ _) empty-within
  call-within s m (dropping name) g = rw (drop-lines s name _) empty-within
  call-within s m (playing report) g = play-within s _ g.sound (in-time S s.standing s.round (length report))

  pub within_all : (cs : List Call) (s : PlainDay) (m : ℕ) → Good S lent fits accepted s m
      → EachWithin S (plain_reports S lent.places fits s (map arguments_of cs))
  within_all [] s m g = tt
  within_all (c ∷ cs) s m g =
      (call-within s m c g, within_all cs _ _ (step S lent fits accepted s m g c).good)
