-- Each call keeps the lent day the one that the plain day expects, and its list sound; so does a list of calls. The
-- invariant is `Good`: a sound list of at most 256 standing bookings, `now` at most T, and at least as many places ever
-- taken as bookings stand. Assumes what `Accepted` says.
use Rattle.std.specs.Prelude.{◌≡◌, ◌↔◌, true, false, set, drop, leb, ltb}
use Rattle.std.proofs.Math.Path.{refl, ap, subst}
use Rattle.std.proofs.Common.{sym, ap₂, ◌∙◌, arith, length-append, ltb-true, le-leb}
use Rattle.std.proofs.Math.Bool.{Bool}
use mathlib.Core.List.{List, [], ◌∷◌, ◌++◌, map}
use Prim.Native.Nat.{ℕ, zero, suc, ◌-◌, ◌≤◌, ◌<◌, max}
use Rattle.std.proofs.Math.ListN.{length}
use Rattle.std.proofs.Math.Seq.{take-append_seam, drop-append_seam, append_snoc}
use Rattle.std.proofs.lemmas.List.{set_at}
use Rattle.std.specs.Int.Count.{ones}
use Rattle.std.proofs.lemmas.Nat.{ones-le}
use Rattle.laws.specs.Tests.{right, join, all}
use Rattle.laws.specs.Questions.{Question, refusal, refusal-held}
use Rattle.laws.specs.Bits.{bit-none}
use Rattle.limits.specs.Refusals.{no_start, no_name, day_over, no_room}
use Rattle.model.specs.Day.{Setting, State, record_of, total, cabs_at, schedule_of, exists, opened, held}
use Rattle.model.specs.Fit.{held_by, Fits, Found, nowhere, at, search, first_of}
use Rattle.model.specs.Questions.{has_name, file_question, book_own, drop_own, play_own}
use Rattle.model.specs.Report.{lines_of, written}
use Rattle.model.specs.Soundness.{apart, limits_kept, fit_test}
use Rattle.model.specs.Calls.{Outcome, standing, no_booking, without, updated, day_in_range, sheet_long, sound, book_questions, start_of, book_with, book_call, drop_questions, drop_with, drop_call, play_questions, cabs_joined, play_with, play_call, Call, booking, dropping, playing, call}
use Rattle.model.specs.PlainDay.{PlainDay, does, plain_refused, plain_book, plain_drop, plain_play, plain_call}
use Rattle.model.specs.Expected.{arguments_of, lent_report, other_places, expected}
use Rattle.model.proofs.FitLaws.{fits_iff, rule-held, limits-round, round-says, showing-apart}
use Rattle.model.specs.FirstFit.{Finds}
use Rattle.model.proofs.FirstFit.{search-finds}
use Rattle.model.proofs.SoundLaws.{without-others, says-sound, sound-snoc, sound-without, length_without, asked, passes_at, file-held}
use Rattle.model.proofs.PlayLaws.{cabs-count}
use Rattle.model.proofs.PlacesLaws.{worked_out-twice, worked_out-long, per_round-same, places-next, places-freed, same-state}
use Rattle.model.specs.declared.Booking.{Booking}
use Rattle.model.specs.declared.Request.{Request}
use Rattle.model.specs.declared.Line.{Line}
use Rattle.model.specs.declared.Answer.TheVariants.{Refused, Dropped, Played}
use Rattle.model.specs.Steps.{Accepted, Good, Matches}

-- ---- the search

search-same : (f g : ℕ → Bool) → ((x : ℕ) → f x ≡ g x) → (s n : ℕ) → search f s n ≡ search g s n
search-same f g e s zero = refl
search-same f g e s (suc n) = cc (e s, search-same f g e (suc s) n)

does-same : {A : Type 0} (d : Dec A) (b : Bool) → A ↔ (b ≡ true) → b ≡ does d
does-same (yes a) b w = w.0 a
does-same (no k) true w = absurd (k (w.1 refl))
does-same (no k) false w = refl

-- ---- what the questions say

named : (S : Setting) (bs : List Booking) (name : ℕ) → refusal (file_question S ∷ drop_own S bs name) ≡ 0 → has_name name bs ≡ true
unfolding drop_own
named S bs name e = (refusal-held (has_name name bs) no_name [] (omega arith) (file-held S (drop_own S bs name) e)).0

pub in-time : (S : Setting) (bs : List Booking) (now room : ℕ) → refusal (file_question S ∷ play_own S bs now room) ≡ 0 → now < S.rounds
unfolding play_own
in-time S bs now room e =
    let late : List Question = (leb (opened S now bs) room, no_room) ∷ [] in
    ltb-true _ _ (refusal-held (ltb now S.rounds) day_over late (omega arith) (file-held S (play_own S bs now room) e)).0

module _ (S : Setting) (lent : State) (fits : (bs : List Booking) → Dec (Fits S bs)) (accepted : Accepted S lent) where
  -- what a call sees of the day
  pub record Seen (d : State) (s : PlainDay) : Type 0 where
    pub clock : day_in_range S d ≡ true
    pub sheet : sheet_long S d ≡ true
    pub sound : sound S d ≡ true
    pub stands : standing d ≡ s.standing
    pub counted : d.count ≡ length s.standing
    pub placed : d.places ≡ lent.places
    pub timed : d.now ≡ s.round

  pub stands-is : (s : PlainDay) (m : ℕ) → standing (expected S lent s m) ≡ s.standing
  stands-is s m = take-append_seam s.standing (other_places (length s.standing) m lent.records)

  pub seen : (s : PlainDay) (m : ℕ) → (Good S lent fits accepted) s m → Seen (expected S lent s m) s
  unfolding day_in_range sheet_long sound
  seen s m g =
      let bs = s.standing in
      record {
        clock = join accepted.rounds (le-leb _ _ g.clock);
        sheet = join (worked_out-long S.rounds _ lent.opens) (join (worked_out-long S.rounds _ lent.reserves) (worked_out-long S.rounds _ lent.helds));
        sound =
            let k : length bs ≤ lent.places = omega (arith, g.most, g.room) in
            join (le-leb _ _ g.few) (join (le-leb _ _ k) (rw (stands-is s m) (says-sound S bs g.sound)));
        stands = stands-is s m;
        counted = refl;
        placed = refl;
        timed = refl;
      }

  book-asks : (d : State) (s : PlainDay) (q : Request) → Seen d s → refusal (book_questions S d q)
      ≡ refusal (file_question S ∷ book_own S s.standing (length s.standing) lent.places s.round q)
  unfolding book_questions
  book-asks d s q v = rw (v.stands, v.clock, accepted.limits, v.sheet, v.sound, v.counted, v.placed, v.timed)

  drop-asks : (d : State) (s : PlainDay) (name : ℕ) → Seen d s
      → refusal (drop_questions S d name) ≡ refusal (file_question S ∷ drop_own S s.standing name)
  unfolding drop_questions
  drop-asks d s name v = rw (v.stands, v.clock, accepted.limits, v.sheet, v.sound)

  play-asks : (d : State) (s : PlainDay) (room : ℕ) → Seen d s
      → refusal (play_questions S d room) ≡ refusal (file_question S ∷ play_own S s.standing s.round room)
  unfolding play_questions
  play-asks d s room v = rw (v.stands, v.clock, accepted.limits, v.sound, v.timed)

  -- a refusal changes nothing
  kept : (s : PlainDay) (m k : ℕ) (old : List Line) (d : State) → (Good S lent fits accepted) s m → d ≡ expected S lent s m
      → (Matches S lent fits accepted) (record { answer = Refused k; report = old; state = d }) (plain_refused S lent.places fits s k) old m
  kept s m k old d g e =
      let x : max m (length s.standing) ≡ m = omega (arith, g.most) in
      record {
        answer = refl;
        report = refl;
        state = e ∙ ap (expected S lent s) (sym x);
        good = rw x g;
      }

  -- the day updated for the bookings bs, over what it was
  settles : (s : PlainDay) (m : ℕ) (bs : List Booking) (m' : ℕ) (count : ℕ) (records : List Booking)
      → count ≡ length bs → records ≡ bs ++ other_places (length bs) m' lent.records
      → updated S (expected S lent s m) count records bs ≡ expected S lent (record { standing = bs; round = s.round }) m'
  settles s m bs m' count records u v =
      same-state refl u refl v
      (worked_out-twice S.rounds _ _ lent.opens)
      (worked_out-twice S.rounds _ _ lent.reserves)
      (worked_out-twice S.rounds _ _ lent.helds
      ∙ ap (λ (r : List ℕ). r ++ drop S.rounds lent.helds)
      (per_round-same (λ t. held S t bs) (λ t. held_by S t bs (map (schedule_of S) bs)) (λ t. sym (rule-held S t bs)) 0 S.rounds))

  length-snoc : (bs : List Booking) (b : Booking) → length (bs ++ (b ∷ [])) ≡ suc (length bs)
  length-snoc bs b = omega (arith, length-append bs (b ∷ []))

  fits-same : (bs : List Booking) → fit_test S bs ≡ does (fits bs)
  fits-same bs = does-same (fits bs) (fit_test S bs) (fits_iff S bs)

  now-limits : (bs : List Booking) → fit_test S bs ≡ true → limits_kept S bs ≡ true
  unfolding fit_test
  now-limits bs e = right (all (exists S) bs) e

  -- the record is stored after the last
  stored : (bs : List Booking) (m : ℕ) (b : Booking) → length bs < length lent.records → length bs ≤ m
      → set (bs ++ other_places (length bs) m lent.records) (length bs) b
      ≡ (bs ++ (b ∷ [])) ++ other_places (length (bs ++ (b ∷ []))) (max m (length (bs ++ (b ∷ [])))) lent.records
  stored bs m b u v =
      let n = places-next (length bs) m lent.records u v in
      let R = other_places (suc (length bs)) (max m (suc (length bs))) lent.records in
      ap (λ (r : List Booking). set (bs ++ r) (length bs) b) n.1
      ∙ set_at bs n.0 R b (length bs) refl
      ∙ sym (append_snoc bs b R)
      ∙ ap (λ (c : ℕ). (bs ++ (b ∷ [])) ++ other_places c (max m c) lent.records) (sym (length-snoc bs b))

  book-with : (s : PlainDay) (m : ℕ) (q : Request) → (Good S lent fits accepted) s m → (n : ℕ)
      → refusal (file_question S ∷ book_own S s.standing (length s.standing) lent.places s.round q) ≡ n
      → (o : Found) → Finds (λ x. does (fits (s.standing ++ (record_of q x ∷ [])))) q.first (suc q.last - q.first) o
      → (Matches S lent fits accepted) (book_with S (expected S lent s m) q n o) (plain_book S lent.places fits s q n o) [] m
  book-with s m q g zero e (at x) w =
      let bs = s.standing in
      let r = record_of q x in
      let d = expected S lent s m in
      let a = asked S bs (length bs) lent.places s.round q e in
      let k = length-snoc bs r in
      let last : x ≤ q.last = omega (arith, w.upto, a.window) in
      record {
        answer = refl;
        report = refl;
        state =
            ap (λ (b : List Booking). updated S d (suc (length bs)) (set d.records (length bs) r) (b ++ (r ∷ []))) (stands-is s m)
            ∙ settles s m (bs ++ (r ∷ [])) (max m (length (bs ++ (r ∷ [])))) (suc (length bs)) _ (sym k) (stored bs m r (omega (arith, a.few, a.place, accepted.room)) g.most);
        good =
            record {
              clock = g.clock;
              few = omega (arith, a.few);
              most = omega arith;
              room = omega (arith, a.few, a.place, g.room);
              sound =
                  sound-snoc S bs r g.sound a.new (passes_at S q x a.fair last a.ending)
                  (now-limits (bs ++ (r ∷ [])) (fits-same (bs ++ (r ∷ [])) ∙ w.passes));
            };
      }
  book-with s m q g zero e nowhere w =
      let bs = s.standing in
      let d = expected S lent s m in
      kept s m no_start [] (updated S d (length bs) d.records (standing d)) g
      (ap (λ (b : List Booking). updated S d (length bs) d.records b) (stands-is s m)
      ∙ settles s m bs m (length bs) d.records refl refl)
  book-with s m q g (suc k) e o w = kept s m (suc k) [] (expected S lent s m) g refl

  book-step : (s : PlainDay) (m : ℕ) (q : Request) → (Good S lent fits accepted) s m
      → (Matches S lent fits accepted) (book_call S (expected S lent s m) q) (plain_call S lent.places fits s (arguments_of (booking q))) [] m
  unfolding book_call start_of
  book-step s m q g =
      let d = expected S lent s m in
      let bs = s.standing in
      let f : ℕ → Bool = λ x. does (fits (bs ++ (record_of q x ∷ []))) in
      let n = refusal (file_question S ∷ book_own S bs (length bs) lent.places s.round q) in
      let o = first_of f q.first q.last in
      let e : first_of (λ x. fit_test S (standing d ++ (record_of q x ∷ []))) q.first q.last ≡ o =
      search-same _ _
      (λ x. ap (λ (b : List Booking). fit_test S (b ++ (record_of q x ∷ []))) (stands-is s m) ∙ fits-same (bs ++ (record_of q x ∷ [])))
      q.first (suc q.last - q.first) in
      subst (λ (w : Outcome). (Matches S lent fits accepted) w (plain_book S lent.places fits s q n o) [] m)
      (sym (ap₂ (book_with S d q) (book-asks d s q (seen s m g)) e))
      (book-with s m q g n refl o (search-finds f q.first (suc q.last - q.first)))

  drop-with : (s : PlainDay) (m name : ℕ) → (Good S lent fits accepted) s m → (n : ℕ) → refusal (file_question S ∷ drop_own S s.standing name) ≡ n
      → (Matches S lent fits accepted) (drop_with S (expected S lent s m) name n) (plain_drop S lent.places fits s name n) [] m
  drop-with s m name g zero e =
      let bs = s.standing in
      let rest = without name bs in
      let d = expected S lent s m in
      let has = named S bs name e in
      let k : suc (length rest) ≡ length bs = length_without name bs has in
      let x : max m (length rest) ≡ m = omega (arith, g.most) in
      let c : length bs - 1 ≡ length rest = omega arith in
      subst (λ (r : List Booking). (Matches S lent fits accepted) (drop_with S d name zero) (record { answer = Dropped; lines = []; after = record { standing = r; round = s.round } }) [] m)
      (without-others name bs g.sound.names)
      (record {
        answer = refl;
        report = refl;
        state =
            ap (λ (b : List Booking). updated S d (length bs - 1) (without name b ++ (no_booking ∷ drop (length bs) d.records)) (without name b)) (stands-is s m)
            ∙ settles s m rest (max m (length rest)) (length bs - 1) _ c
            (ap (λ (r : List Booking). rest ++ (no_booking ∷ r)) (drop-append_seam bs (other_places (length bs) m lent.records))
            ∙ ap (λ (y : ℕ). rest ++ (no_booking ∷ other_places y m lent.records)) (sym k)
            ∙ ap (λ (r : List Booking). rest ++ r) (places-freed (length rest) m lent.records (omega (arith, g.most)))
            ∙ ap (λ (y : ℕ). rest ++ other_places (length rest) y lent.records) (sym x));
        good =
            record {
              clock = g.clock;
              few = omega (arith, g.few);
              most = omega arith;
              room = omega (arith, g.room);
              sound = sound-without S accepted.rising name bs g.few g.sound;
            };
      })
  drop-with s m name g (suc k) e = kept s m (suc k) [] (expected S lent s m) g refl

  drop-step : (s : PlainDay) (m name : ℕ) → (Good S lent fits accepted) s m
      → (Matches S lent fits accepted) (drop_call S (expected S lent s m) name) (plain_call S lent.places fits s (arguments_of (dropping name))) [] m
  unfolding drop_call
  drop-step s m name g =
      let d = expected S lent s m in
      let n = refusal (file_question S ∷ drop_own S s.standing name) in
      subst (λ (w : Outcome). (Matches S lent fits accepted) w (plain_drop S lent.places fits s name n) [] m)
      (sym (ap (drop_with S d name) (drop-asks d s name (seen s m g)))) (drop-with s m name g n refl)

  play-with : (s : PlainDay) (m : ℕ) (report : List Line) → (Good S lent fits accepted) s m → (n : ℕ)
      → refusal (file_question S ∷ play_own S s.standing s.round (length report)) ≡ n
      → (Matches S lent fits accepted) (play_with S (expected S lent s m) report n) (plain_play S lent.places fits s n) report m
  play-with s m report g zero e =
      let bs = s.standing in
      let r = s.round in
      let d = expected S lent s m in
      let early = in-time S bs r (length report) e in
      let x : max m (length bs) ≡ m = omega (arith, g.most) in
      let ok = round-says S bs r (limits-round S bs g.sound.kept r early) in
      let ls : lines_of S r (standing d) ≡ lines_of S r bs = ap (lines_of S r) (stands-is s m) in
      let free : apart S r 0 bs ≡ true = showing-apart S r 0 bs (λ k. omega (arith, ok.cabs k, bit-none k)) in
      let cs : ones (cabs_joined S r 0 bs) ≡ total (λ b. ones (cabs_at S r b)) bs =
      omega (arith, cabs-count S r 0 bs free, ones-le 0 0 (omega arith)) in
      record {
        answer = ap₂ Played (ap length ls) (ap (λ (b : List Booking). ones (cabs_joined S r 0 b)) (stands-is s m) ∙ cs);
        report = ap (λ (a : List Line). written a report) ls;
        state = ap (expected S lent (record { standing = bs; round = suc r })) (sym x);
        good = record { clock = early; few = g.few; most = omega arith; room = omega (arith, g.most, g.room); sound = g.sound };
      }
  play-with s m report g (suc k) e = kept s m (suc k) report (expected S lent s m) g refl

  play-step : (s : PlainDay) (m : ℕ) (report : List Line) → (Good S lent fits accepted) s m
      → (Matches S lent fits accepted) (play_call S (expected S lent s m) report) (plain_call S lent.places fits s (arguments_of (playing report))) report m
  unfolding play_call
  play-step s m report g =
      let d = expected S lent s m in
      let n = refusal (file_question S ∷ play_own S s.standing s.round (length report)) in
      subst (λ (w : Outcome). (Matches S lent fits accepted) w (plain_play S lent.places fits s n) report m)
      (sym (ap (play_with S d report) (play-asks d s (length report) (seen s m g)))) (play-with s m report g n refl)

  pub step : (s : PlainDay) (m : ℕ) → (Good S lent fits accepted) s m → (c : Call)
      → (Matches S lent fits accepted) (call S (expected S lent s m) c) (plain_call S lent.places fits s (arguments_of c)) (lent_report c) m
  step s m g (booking q) = book-step s m q g
  step s m g (dropping name) = drop-step s m name g
  step s m g (playing report) = play-step s m report g
