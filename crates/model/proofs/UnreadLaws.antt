-- No unread byte: on one booking's lines since it was accepted, the sends up to any line add up to at most the reads up to
-- it. The invariant `Fed` says so of the lines to come, together with what its schedule sent and read in its rounds before.
-- Assumes what `Accepted` says.
use Rattle.std.specs.Prelude.{◌≡◌, Bool, true, false, cond, not, ◌&&◌, ◌||◌, List, [], ◌∷◌, ◌++◌, map, ℕ, zero, suc, ◌+◌, ◌-◌, ◌≤◌, min, get_or, take, drop, leb, ltb, eqb}
use Rattle.std.proofs.Math.Path.{refl}
use Rattle.std.proofs.Common.{sym, ap, ◌∙◌, subst, inl, inr, true≢false, arith, leb-true, eqb-true, eq-eqb, ne_eqb, leb-false, ltb-false}
use Rattle.std.proofs.Math.ListN.{length}
use Rattle.std.proofs.lemmas.Bool.{not-true}
use Rattle.laws.specs.Tests.{left, right}
use Rattle.films.specs.Layout.{sizes_of}
use Rattle.retrieval.specs.Schedule.{totals}
use Rattle.retrieval.specs.Carry.{carry}
use Rattle.retrieval.proofs.Laws.{just_in_time-at, carry-drop}
use Rattle.model.specs.Day.{Setting, State, record_of, sending, ends, open_at, schedule_of, exists}
use Rattle.model.specs.Fit.{Fits, Found, nowhere, at}
use Rattle.model.specs.Questions.{has_name}
use Rattle.model.specs.Report.{line_of, lines_of, sum_read, sum_send, of_name}
use Rattle.model.specs.Soundness.{names_differ}
use Rattle.model.specs.Calls.{Call, booking, dropping, playing}
use Rattle.model.specs.PlainDay.{PlainDay, Arguments, PlainOutcome, others, plain_book, plain_drop, plain_play, plain_number, plain_start, plain_call}
use Rattle.model.specs.Expected.{arguments_of}
use Rattle.model.proofs.FitLaws.{place, exists-carry, length-sends}
use Rattle.model.specs.SoundLaws.{Sound}
use Rattle.model.proofs.PlayLaws.{totals-at, just_in_time-prev}
use Rattle.model.specs.Steps.{Accepted, Good}
use Rattle.model.proofs.Steps.{step}
use Rattle.model.specs.declared.Booking.{Booking}
use Rattle.model.specs.declared.Request.{Request}
use Rattle.model.specs.declared.Line.{Line}
use Rattle.model.specs.UnreadLaws.{Stands}

module _ (S : Setting) (places : ℕ) (fits : (bs : List Booking) → Dec (Fits S bs)) where
  -- the lines of the booking that stands under this name, for as long as it stands
  abbrev pub lines_since : ℕ → PlainDay → List Arguments → List Line
  lines_since n s [] = []
  lines_since n s (c ∷ cs) =
      let e = plain_call S places fits s c in
      of_name n e.lines ++ cond (has_name n e.after.standing) (lines_since n e.after cs) []

or_right : (a : Bool) → a || true ≡ true
or_right true = refl
or_right false = refl

stands-named : (b : Booking) (bs : List Booking) → Stands b bs → has_name b.name bs ≡ true
stands-named b [] v = absurd v
stands-named b (x ∷ bs) (inl e) = rw (eq-eqb x.name b.name (ap (λ (y : Booking). y.name) e))
stands-named b (x ∷ bs) (inr v) = rw (stands-named b bs v) (or_right (eqb x.name b.name))

stands-snoc : (b x : Booking) (bs : List Booking) → Stands b bs → Stands b (bs ++ (x ∷ []))
stands-snoc b x [] v = absurd v
stands-snoc b x (y ∷ bs) (inl e) = inl e
stands-snoc b x (y ∷ bs) (inr v) = inr (stands-snoc b x bs v)

pub stands-last : (b : Booking) (bs : List Booking) → Stands b (bs ++ (b ∷ []))
stands-last b [] = inl refl
stands-last b (y ∷ bs) = inr (stands-last b bs)

stands-others : (b : Booking) (k : ℕ) (bs : List Booking) → eqb b.name k ≡ false → Stands b bs → Stands b (others k bs)
stands-others b k [] u v = v
stands-others b k (x ∷ bs) u (inl e) =
    let w : eqb x.name k ≡ false = ap (λ (y : Booking). eqb y.name k) e ∙ u in
    rw w (inl e)
stands-others b k (x ∷ bs) u (inr v) = go (eqb x.name k) (stands-others b k bs u v)
  where
    go : (t : Bool) → Stands b (others k bs) → Stands b (cond t (others k bs) (x ∷ others k bs))
    go true i = i
    go false i = inr i

others-none : (k : ℕ) (bs : List Booking) → has_name k (others k bs) ≡ false
others-none k [] = refl
others-none k (x ∷ bs) = go (eqb x.name k) refl (others-none k bs)
  where
    go : (t : Bool) → eqb x.name k ≡ t → has_name k (others k bs) ≡ false → has_name k (cond t (others k bs) (x ∷ others k bs)) ≡ false
    go true u i = i
    go false u i = rw (u) i

module _ (S : Setting) (t : ℕ) where
  none_named : (n : ℕ) (bs : List Booking) → has_name n bs ≡ false → of_name n (lines_of S t bs) ≡ []
  none_named n [] e = refl
  none_named n (x ∷ bs) e = go (eqb x.name n) refl e (open_at S t x) (none_named n bs)
    where
      go : (v : Bool) → eqb x.name n ≡ v → v || has_name n bs ≡ false → (o : Bool)
          → (has_name n bs ≡ false → of_name n (lines_of S t bs) ≡ [])
          → of_name n (cond o (line_of S t x ∷ lines_of S t bs) (lines_of S t bs)) ≡ []
      go true u w o i = absurd (true≢false w)
      go false u w true i = rw u (i w)
      go false u w false i = i w

  one-named : (b : Booking) (bs : List Booking) → names_differ bs ≡ true → Stands b bs
      → of_name b.name (lines_of S t bs) ≡ cond (open_at S t b) (line_of S t b ∷ []) []
  one-named b [] d v = absurd v
  one-named b (x ∷ bs) d (inl e) =
      subst (λ (y : Booking). of_name y.name (lines_of S t (x ∷ bs)) ≡ cond (open_at S t y) (line_of S t y ∷ []) []) e
      (go (open_at S t x) (none_named x.name bs (not-true _ (left (not (has_name x.name bs)) (names_differ bs) d))))
    where
      go : (o : Bool) → of_name x.name (lines_of S t bs) ≡ []
          → of_name x.name (cond o (line_of S t x ∷ lines_of S t bs) (lines_of S t bs)) ≡ cond o (line_of S t x ∷ []) []
      go true i = rw (eq-eqb x.name x.name refl, i)
      go false i = i
  one-named b (x ∷ bs) d (inr v) =
      let no-x = not-true _ (left (not (has_name x.name bs)) (names_differ bs) d) in
      let u : eqb x.name b.name ≡ false =
      ne_eqb x.name b.name (λ q. true≢false (sym (stands-named b bs v) ∙ ap (λ (n : ℕ). has_name n bs) (sym q) ∙ no-x)) in
      go (open_at S t x) u (one-named b bs (right (not (has_name x.name bs)) d) v)
    where
      go : (o : Bool) → eqb x.name b.name ≡ false → of_name b.name (lines_of S t bs) ≡ cond (open_at S t b) (line_of S t b ∷ []) []
          → of_name b.name (cond o (line_of S t x ∷ lines_of S t bs) (lines_of S t bs)) ≡ cond (open_at S t b) (line_of S t b ∷ []) []
      go true u i = rw u i
      go false u i = i

module _ (S : Setting) (b : Booking) (ex : exists S b ≡ true) where
  -- ---- one booking, from a round on

  -- how many of its rounds are past in round r, and what was sent and read in them
  abbrev pub past : ℕ → ℕ
  past r = min (r - b.start) (length (sending S b))

  abbrev pub sent_before : ℕ → ℕ
  sent_before r = get_or (0 ∷ totals 0 (sending S b)) (past r) 0

  abbrev pub read_before : ℕ → ℕ
  read_before r = get_or (0 ∷ schedule_of S b) (past r) 0

  prev : (u : ℕ) → u ≤ length (sending S b)
      → get_or (0 ∷ schedule_of S b) u 0 ≡ get_or (0 ∷ totals 0 (sending S b)) u 0 + carry b.reserve (drop u (sending S b))
  prev u k =
      let z : 0 + carry b.reserve (sending S b) ≡ 0 = omega (arith, exists-carry S b ex) in
      rw z at (just_in_time-prev b.reserve 0 (sending S b) u k)

  ahead : (r : ℕ) → sent_before r ≤ read_before r
  ahead r = omega (arith, prev (past r) (omega arith))

  -- an open round sends and reads what its line says
  turn-sent : (r : ℕ) → open_at S r b ≡ true → sent_before (suc r) ≡ sent_before r + (line_of S r b).send
  turn-sent r o =
      let xs = sending S b in
      let p = place S r b o in
      let u = r - b.start in
      let e : past r ≡ u = omega (arith, p.1) in
      let e' : past (suc r) ≡ suc u = omega (arith, p.0, p.1) in
      let C : ℕ → ℕ = λ k. get_or (0 ∷ totals 0 xs) k 0 in
      omega (arith, ap C e, ap C e', totals-at 0 xs u p.1)

  turn-read : (r : ℕ) → open_at S r b ≡ true → read_before (suc r) ≡ read_before r + (line_of S r b).read
  turn-read r o =
      let xs = sending S b in
      let p = place S r b o in
      let u = r - b.start in
      let e : past r ≡ u = omega (arith, p.1) in
      let e' : past (suc r) ≡ suc u = omega (arith, p.0, p.1) in
      let A : ℕ → ℕ = λ k. get_or (0 ∷ schedule_of S b) k 0 in
      omega (arith, ap A e, ap A e', prev u (omega (arith, p.1)), just_in_time-at b.reserve 0 xs u p.1, carry-drop b.reserve xs u p.1)

  -- any other round changes nothing
  still : (r : ℕ) → open_at S r b ≡ false → past (suc r) ≡ past r
  unfolding open_at
  still r o = go (leb b.start r) refl (ltb r (ends S b)) refl o
    where
      len : length (sending S b) ≡ b.prefetch + length (sizes_of S.films b.film)
      len = length-sends b.prefetch (sizes_of S.films b.film)

      go : (x : Bool) → leb b.start r ≡ x → (y : Bool) → ltb r (ends S b) ≡ y → x && y ≡ false → past (suc r) ≡ past r
      go true u true v w = absurd (true≢false w)
      go true u false v w = omega (arith, len, leb-true b.start r u, ltb-false r (ends S b) v)
      go false u y v w = omega (arith, leb-false b.start r u)

  -- up to any of the lines to come the sends are at most the reads, with those before
  abbrev pub Fed : ℕ → List Line → Type 0
  Fed r L = (k : ℕ) → sent_before r + sum_send (take k L) ≤ read_before r + sum_read (take k L)

  fed-none : (r : ℕ) → Fed r []
  fed-none r zero = omega (arith, ahead r)
  fed-none r (suc k) = omega (arith, ahead r)

  fed-next : (r : ℕ) (L : List Line) → open_at S r b ≡ true → Fed (suc r) L → Fed r (line_of S r b ∷ L)
  fed-next r L o f zero = omega (arith, ahead r)
  fed-next r L o f (suc k) = omega (arith, f k, turn-sent r o, turn-read r o)

  fed-still : (r : ℕ) (L : List Line) → open_at S r b ≡ false → Fed (suc r) L → Fed r L
  fed-still r L o f = subst (λ (u : ℕ). (k : ℕ) → get_or (0 ∷ totals 0 (sending S b)) u 0 + sum_send (take k L) ≤ get_or (0 ∷ schedule_of S b) u 0 + sum_read (take k L)) (still r o) f

  -- a call that writes no line
  quiet : (r : ℕ) (e : PlainOutcome) (L : List Line) → e.lines ≡ [] → e.after.round ≡ r
      → (has_name b.name e.after.standing ≡ true → Fed e.after.round L)
      → Fed r (of_name b.name e.lines ++ cond (has_name b.name e.after.standing) L [])
  quiet r e L u v f = rw u (go (has_name b.name e.after.standing) f)
    where
      go : (t : Bool) → (t ≡ true → Fed e.after.round L) → Fed r (cond t L [])
      go true i = rw v at (i refl)
      go false i = fed-none r

  -- a round played
  loud : (r : ℕ) (bs : List Booking) (L : List Line) → names_differ bs ≡ true → Stands b bs → Fed (suc r) L
      → Fed r (of_name b.name (lines_of S r bs) ++ cond (has_name b.name bs) L [])
  loud r bs L d v f = rw (stands-named b bs v, one-named S r b bs d v) (go (open_at S r b) refl)
    where
      go : (o : Bool) → open_at S r b ≡ o → Fed r (cond o (line_of S r b ∷ []) [] ++ L)
      go true e = fed-next r L e f
      go false e = fed-still r L e f

module _ (S : Setting) (lent : State) (fits : (bs : List Booking) → Dec (Fits S bs)) (accepted : Accepted S lent) (b : Booking) (ex : exists S b ≡ true) where
  -- what a call that writes no line leaves
  record Silent (s : PlainDay) (e : PlainOutcome) : Type 0 where
    lines : e.lines ≡ []
    round : e.after.round ≡ s.round
    names : has_name b.name e.after.standing ≡ true → Stands b e.after.standing

  book-silent : (s : PlainDay) (q : Request) → Stands b s.standing → (n : ℕ) (o : Found)
      → Silent s (plain_book S lent.places fits s q n o)
  book-silent s q v zero (at x) = record { lines = refl; round = refl; names = λ u. stands-snoc b (record_of q x) s.standing v }
  book-silent s q v zero nowhere = record { lines = refl; round = refl; names = λ u. v }
  book-silent s q v (suc k) o = record { lines = refl; round = refl; names = λ u. v }

  drop-silent : (s : PlainDay) (name : ℕ) → Stands b s.standing → (n : ℕ)
      → Silent s (plain_drop S lent.places fits s name n)
  drop-silent s name v zero = record { lines = refl; round = refl; names = go (eqb b.name name) refl }
    where
      go : (t : Bool) → eqb b.name name ≡ t → has_name b.name (others name s.standing) ≡ true
          → Stands b (others name s.standing)
      go true e u = absurd (true≢false (sym u ∙ ap (λ (k : ℕ). has_name k (others name s.standing)) (eqb-true b.name name e) ∙ others-none name s.standing))
      go false e u = stands-others b name s.standing e v
  drop-silent s name v (suc k) = record { lines = refl; round = refl; names = λ u. v }

  play-fed : (s : PlainDay) → Sound S s.standing → Stands b s.standing → (n : ℕ) (cs : List Arguments)
      → (Stands b (plain_play S lent.places fits s n).after.standing
      → Fed S b ex (plain_play S lent.places fits s n).after.round
      (lines_since S lent.places fits b.name (plain_play S lent.places fits s n).after cs))
      → Fed S b ex s.round
      (of_name b.name (plain_play S lent.places fits s n).lines
      ++ cond (has_name b.name (plain_play S lent.places fits s n).after.standing)
      (lines_since S lent.places fits b.name (plain_play S lent.places fits s n).after cs) [])
  play-fed s g v zero cs f = loud S b ex s.round s.standing _ g.names v (f v)
  play-fed s g v (suc k) cs f = quiet S b ex s.round (plain_play S lent.places fits s (suc k)) _ refl refl (λ u. f v)

  pub fed : (cs : List Call) (s : PlainDay) (m : ℕ) → Good S lent fits accepted s m → Stands b s.standing
      → Fed S b ex s.round (lines_since S lent.places fits b.name s (map arguments_of cs))
  fed [] s m g v = fed-none S b ex s.round
  fed (booking q ∷ cs) s m g v =
      let e = plain_call S lent.places fits s (arguments_of (booking q)) in
      let i = book-silent s q v (plain_number S lent.places fits s (arguments_of (booking q))) (plain_start S lent.places fits s q) in
      quiet S b ex s.round e _ i.lines i.round
      (λ u. fed cs e.after _ (step S lent fits accepted s m g (booking q)).good (i.names u))
  fed (dropping name ∷ cs) s m g v =
      let e = plain_call S lent.places fits s (arguments_of (dropping name)) in
      let i = drop-silent s name v (plain_number S lent.places fits s (arguments_of (dropping name))) in
      quiet S b ex s.round e _ i.lines i.round
      (λ u. fed cs e.after _ (step S lent fits accepted s m g (dropping name)).good (i.names u))
  fed (playing report ∷ cs) s m g v =
      let e = plain_call S lent.places fits s (arguments_of (playing report)) in
      play-fed s g.sound v (plain_number S lent.places fits s (arguments_of (playing report))) (map arguments_of cs) (λ u. fed cs e.after _ (step S lent fits accepted s m g (playing report)).good u)
