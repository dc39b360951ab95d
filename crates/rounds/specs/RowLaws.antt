-- The bookings open in some rounds, one by one, and their rows. Assumes nothing.
use Rattle.std.specs.Prelude.{◌≡◌, refl, Bool, true, false, cond, List, [], ◌∷◌, ◌++◌, ℕ, zero, suc, ◌+◌, ◌-◌, ◌*◌, ◌≤◌, ◌<◌, ltb, length, get_or, take, drop, map, ◌&&◌, leb}
use Rattle.std.proofs.Common.{sym, ap, ◌∙◌, append-nil, take-append-drop, true≢false, mul-zero, mul-le-mul_left, mul-le-mul_right, arith, length-append, length-drop, lt-ltb, ltb-true, le-ltb, leb-true, leb-false}
use borrow.Rule.Slice.PartMut.{mid_of, put_mid}
use Rattle.limits.specs.Bounds.{max_bookings, max_day}
use Rattle.laws.specs.Tests.{left, right, join}
use Rattle.model.proofs.PlacesLaws.{length-per_round}
use Rattle.load.specs.Basic.{Playable, EachOf}
use Rattle.load.specs.Stream.{no_stream, end_of, open_in, holds_in}
use Rattle.load.specs.StreamLaws.{open-place}
use Rattle.load.specs.declared.stream.Stream.{Stream}
use Rattle.laws.specs.Parts.{tail-length, tail-back}
use Rattle.rounds.specs.Rows.{open_between, active, head_words, head_of, helds_of, row_of, RowsOf, BlockOf, Bookings}
use Rattle.rounds.specs.Table.{marked_of, streams_in}
use Rattle.rounds.specs.declared.marks.Marked.{Marked}
use Rattle.std.proofs.lemmas.List.Elements.{filter_more, filter-append}
use Rattle.std.proofs.lemmas.List.Sums.{length-filter, count_by-le-length}
use Rattle.rounds.specs.TableLaws.{row_next, row_within, put-long, words-at, words-next, streams-long, streams-marked}
use Rattle.std.proofs.lemmas.List.{length-map}

-- ---- one booking

-- one that is open in one of them begins before they end
pub between_start : (from to : ℕ) (x : Stream) → open_between from to x ≡ true → x.start < to
unfolding open_between
between_start from to x e = ltb-true x.start to (left (ltb x.start to) (ltb from (end_of x)) e)

-- open in some rounds, open in more
between_more : (from to to' : ℕ) (x : Stream) → to ≤ to' → open_between from to x ≡ true → open_between from to' x ≡ true
unfolding open_between
between_more from to to' x h e =
    join (lt-ltb x.start to' (omega (arith, between_start from to x e))) (right (ltb x.start to) e)

-- open in none of them
pub between-shut : (from to : ℕ) (x : Stream) → open_between from to x ≡ false → (t : ℕ) → from ≤ t → t < to → open_in t x ≡ false
unfolding open_between
between-shut from to x e t u v = go (open_in t x) refl
  where
    go : (o : Bool) → open_in t x ≡ o → open_in t x ≡ false
    go false o = o
    go true o =
        let p = open-place t x o in
        absurd (true≢false (sym (join (lt-ltb x.start to (omega (arith, p.0))) (lt-ltb from (end_of x) (omega (arith, p.1)))) ∙ e))

-- ---- the list

module _ (from to : ℕ) where
  module _ (xs : List Stream) (i : ℕ) (h : i < length xs) where
    -- one more that is open in these rounds, and one that is not
    pub active-open : open_between from to (get_or xs i no_stream) ≡ true
        → active from to (take (i + 1) xs) ≡ active from to (take i xs) ++ (get_or xs i no_stream ∷ [])
    active-open o = filter_more (open_between from to) xs i no_stream h ∙ rw o

    pub active-shut : open_between from to (get_or xs i no_stream) ≡ false → active from to (take (i + 1) xs) ≡ active from to (take i xs)
    active-shut o = filter_more (open_between from to) xs i no_stream h ∙ rw o (append-nil (active from to (take i xs)))

  -- of the first i no more than of all
  pub active-most : (xs : List Stream) (i : ℕ) → length (active from to (take i xs)) ≤ length (active from to xs)
  active-most xs i =
      let split : active from to xs ≡ active from to (take i xs) ++ active from to (drop i xs) =
      ap (active from to) (sym (take-append-drop i xs)) ∙ filter-append (open_between from to) (take i xs) (drop i xs) in
      omega (arith, ap length split, length-append (active from to (take i xs)) (active from to (drop i xs)))

  -- in fewer rounds no more
  pub active-less : (to' : ℕ) → to ≤ to' → (xs : List Stream) → length (active from to xs) ≤ length (active from to' xs)
  active-less to' h [] = omega arith
  active-less to' h (x ∷ xs) = go (open_between from to x) (open_between from to' x) (between_more from to to' x h) (active-less to' h xs)
    where
      go : (o p : Bool) → (o ≡ true → p ≡ true) → length (active from to xs) ≤ length (active from to' xs)
          → length (cond o (x ∷ active from to xs) (active from to xs)) ≤ length (cond p (x ∷ active from to' xs) (active from to' xs))
      go true true k e = omega arith
      go true false k e = absurd (true≢false (sym (k refl)))
      go false true k e = omega arith
      go false false k e = e

  -- what holds of each of them
  pub active-each : (P : Stream → Type 0) (xs : List Stream) → ((i : ℕ) → i < length xs → P (get_or xs i no_stream))
      → (i : ℕ) → i < length (active from to xs) → P (get_or (active from to xs) i no_stream)
  active-each P [] e i h = absurd (omega arith)
  active-each P (x ∷ xs) e i h = go (open_between from to x) (active-each P xs (λ k u. e (suc k) (omega arith))) i h
    where
      go : (o : Bool) → ((k : ℕ) → k < length (active from to xs) → P (get_or (active from to xs) k no_stream))
          → (i : ℕ) → i < length (cond o (x ∷ active from to xs) (active from to xs)) → P (get_or (cond o (x ∷ active from to xs) (active from to xs)) i no_stream)
      go true r zero h = e 0 (omega arith)
      go true r (suc i) h = r i (omega arith)
      go false r i h = r i h

-- ---- the row of a booking

module _ (x : Stream) (n : ℕ) (old head : List ℕ) (e : head ≡ head_of x (drop head_words old)) (size : length old ≡ head_words + n) where
  -- its part after the head
  pub row-part : length (mid_of head_words (length head - head_words) head) ≡ n
  row-part = omega (arith, tail-length head_words head, ap length e, length-drop head_words old)

  pub row_back : (f : List ℕ) (from : ℕ) (part : List ℕ) → part ≡ helds_of f from (length (mid_of head_words (length head - head_words) head)) x
      → put_mid head_words (length head - head_words) head part ≡ row_of f from n x
  row_back f from part q =
      tail-back head_words head part ∙ ap (λ (l : List ℕ). take head_words l ++ part) e
      ∙ ap (head_of x) (q ∙ ap (λ (k : ℕ). helds_of f from k x) row-part)

row-long : (f : List ℕ) (from n : ℕ) (x : Stream) → length (row_of f from n x) ≡ head_words + n
row-long f from n x = omega (arith, length-per_round (λ t. holds_in f t x) from n)

-- ---- the rows of a block

pub rows_none : (f : List ℕ) (from n : ℕ) (words : List ℕ) → RowsOf f [] from n 0 words
rows_none f from n words =
    let z : (head_words + n) * 0 ≡ 0 = mul-zero (head_words + n) in
    record { bookings = refl; room = omega arith; rows = rw z }

-- one more
pub rows_next : (f : List ℕ) (ys : List Stream) (from n count : ℕ) (words : List ℕ) (x : Stream) (part : List ℕ) → RowsOf f ys from n count words
    → (head_words + n) * count + (head_words + n) ≤ length words → part ≡ row_of f from n x
    → RowsOf f (ys ++ (x ∷ [])) from n (count + 1) (put_mid ((head_words + n) * count) ((head_words + n) * count + (head_words + n) - (head_words + n) * count) words part)
rows_next f ys from n count words x part w h q =
    let size = head_words + n in
    record {
      bookings = omega (arith, w.bookings, length-append ys (x ∷ []));
      room = omega (arith, row_next size count, put-long (size * count) size words part h (ap length q ∙ row-long f from n x));
      rows = words-next (row_of f from n) size (row-long f from n) words ys count w.rows x part h q;
    }

-- there is room for the row of a booking that is open in these rounds
pub rows-room : (from to : ℕ) (xs : List Stream) (i size rows room : ℕ) → i < length xs → rows ≡ length (active from to (take i xs))
    → size * length (active from to xs) ≤ room → open_between from to (get_or xs i no_stream) ≡ true → size * rows + size ≤ room
rows-room from to xs i size rows room h e m o =
    let more = ap length (active-open from to xs i h o) in
    omega (
      arith,
      row_within size rows (length (active from to xs))
          (omega (arith, more, length-append (active from to (take i xs)) (get_or xs i no_stream ∷ []), active-most from to xs (i + 1))),
    )

-- a word of a booking's row
pub row_word : (f : List ℕ) (ys : List Stream) (from n count : ℕ) (words : List ℕ) → RowsOf f ys from n count words → (i k : ℕ) → i < count → k < head_words + n
    → get_or words ((head_words + n) * i + k) 0 ≡ get_or (row_of f from n (get_or ys i no_stream)) k 0
row_word f ys from n count words w i k h l =
    words-at (row_of f from n) (head_words + n) (row-long f from n) words ys count w.rows w.bookings i k h l

-- rows of fewer rounds, and of fewer bookings, fit too
pub rows_fit : (from r to w room : ℕ) (xs : List Stream) → r ≤ w → from + r ≤ to → (head_words + w) * length (active from to xs) ≤ room
    → (head_words + r) * length (active from (from + r) xs) ≤ room
rows_fit from r to w room xs h k m =
    let narrow : head_words + r ≤ head_words + w = omega arith in
    omega (
      arith,
      mul-le-mul_right (length (active from (from + r) xs)) narrow,
      mul-le-mul_left (head_words + w) (active-less from (from + r) to k xs),
    )

-- no more are open than there are bookings
pub active-bound : (from to : ℕ) (xs : List Stream) → length xs ≤ max_bookings → length (active from to xs) ≤ max_bookings
active-bound from to xs h = omega (arith, length-filter (open_between from to) xs, count_by-le-length (open_between from to) xs)

-- the rows that were written are those of a block
pub block_of : (f : List ℕ) (bookings : List Marked) (from n rows : ℕ) (words : List ℕ) → Bookings f bookings
    → from + n ≤ max_day → RowsOf f (active from (from + n) (streams_in bookings)) from n rows words
    → BlockOf f (active from (from + n) (streams_in bookings)) (record { from = from; rounds = n; bookings = rows }) words
block_of f bookings from n rows words b d w =
    record {
      few = omega (arith, w.bookings, active-bound from (from + n) (streams_in bookings) (omega (arith, streams-long bookings, b.few)));
      playable = λ i u. active-each from (from + n) (Playable f) (streams_in bookings) b.playable i (omega (arith, w.bookings));
      table = w;
      day = d;
    }

-- bookings marked are those that a block is looked up in
pub bookings-marked : (f : List ℕ) (xs : List Stream) (bookings : List Marked) → bookings ≡ map (marked_of f) xs → length xs ≤ max_bookings
    → EachOf (Playable f) xs → Bookings f bookings
bookings-marked f xs bookings e few playable =
    let same = streams-marked f xs bookings e in
    record { few = omega (arith, ap length e, length-map xs (marked_of f)); playable = rw same playable; marked = rw same e }

-- one that begins after the rounds, and one that does not
pub between-late : (from to : ℕ) (x : Stream) → to ≤ x.start → false ≡ open_between from to x
unfolding open_between
between-late from to x h = rw (le-ltb x.start to h)

pub between-from : (from to : ℕ) (x : Stream) → x.start < to → ltb from (end_of x) ≡ open_between from to x
unfolding open_between
between-from from to x h = rw (lt-ltb x.start to h)

-- in a block of one round: those open in it
pub between-one : (t : ℕ) (x : Stream) → open_between t (t + 1) x ≡ open_in t x
unfolding open_between open_in
between-one t x = ap (λ (v : Bool). v && ltb t (end_of x)) (same (leb x.start t) refl)
  where
    same : (v : Bool) → leb x.start t ≡ v → ltb x.start (t + 1) ≡ leb x.start t
    same true e = lt-ltb x.start (t + 1) (omega (arith, leb-true x.start t e)) ∙ sym e
    same false e = le-ltb x.start (t + 1) (omega (arith, leb-false x.start t e)) ∙ sym e

module _ (from to : ℕ) where
  -- no more than there are
  pub active-few : (xs : List Stream) → length (active from to xs) ≤ length xs
  active-few [] = omega arith
  active-few (x ∷ xs) = go (open_between from to x) (active-few xs)
    where
      go : (o : Bool) → length (active from to xs) ≤ length xs → length (cond o (x ∷ active from to xs) (active from to xs)) ≤ suc (length xs)
      go true e = omega arith
      go false e = omega arith
