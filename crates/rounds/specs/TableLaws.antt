-- Rows of words: filled from the last word to the first, written one after the other, read by place. Assumes nothing.
use Rattle.std.specs.Prelude.{◌≡◌, refl, List, [], ◌∷◌, ◌++◌, ℕ, zero, suc, ◌+◌, ◌-◌, ◌*◌, ◌≤◌, ◌<◌, length, get_or, set, take, drop, map}
use Rattle.std.proofs.Common.{sym, ap, ◌∙◌, append-nil, append_assoc, mul-zero, mul-suc, mul-le-mul_left, add-one, arith, drop_of_length-le, drop_at, take_at, length-take-le, get_or-take, get_or-append-add}
use Rattle.std.proofs.Math.ListN.{get_or-append}
use Rattle.std.proofs.lemmas.List.{set_split, length-map, get_or-map}
use Rattle.std.proofs.Math.Seq.{take-append-add}
use borrow.Rule.Slice.PartMut.{mid_of, put_mid, same_len_mid, mid_len}
use Rattle.model.specs.Calls.{per_round}
use Rattle.model.proofs.CodeLaws.{per_round-at}
use Rattle.load.specs.Stream.{no_stream}
use Rattle.load.specs.declared.stream.Stream.{Stream}
use Rattle.rounds.specs.Table.{rows_of, mark_count, mark_of, marks_of, marked_of, streams_in, no_marked}
use Rattle.rounds.specs.declared.marks.Marked.{Marked}

-- ---- words from place k on are g of their places, counted from a

module _ (g : ℕ → ℕ) (a n : ℕ) (part : List ℕ) (size : length part ≡ n) where
  pub fill_none : drop n part ≡ per_round g (a + n) (n - n)
  fill_none =
      let e : n - n ≡ 0 = omega arith in
      let h : length part ≤ n = omega arith in
      rw e (drop_of_length-le part h)

  pub fill-next : (k v : ℕ) → 0 < k → k ≤ n → drop k part ≡ per_round g (a + k) (n - k) → v ≡ g (a + (k - 1))
      → drop (k - 1) (set part (k - 1) v) ≡ per_round g (a + (k - 1)) (n - (k - 1))
  fill-next zero v h l e q = absurd (omega arith)
  fill-next (suc k) v h l e q =
      let d : suc k - 1 ≡ k = omega arith in
      let m : n - k ≡ suc (n - suc k) = omega arith in
      let b : a + suc k ≡ suc (a + k) = omega arith in
      let q' : v ≡ g (a + k) = rw d at q in
      let e' : drop (suc k) part ≡ per_round g (suc (a + k)) (n - suc k) = rw b at e in
      rw (d, m, set_split part k v (omega arith), drop_at (take k part) (v ∷ drop (suc k) part) k (length-take-le k part (omega arith)), q', e')

  pub fill-all : (k : ℕ) → k ≤ 0 → drop k part ≡ per_round g (a + k) (n - k) → part ≡ per_round g a n
  fill-all zero h e = let b : a + 0 ≡ a = omega arith in let m : n - 0 ≡ n = omega arith in rw (b, m) at e
  fill-all (suc k) h e = absurd (omega arith)

-- ---- the first five words

pub five-written : (l : List ℕ) → 5 ≤ length l → (a b c d e : ℕ) → set (set (set (set (set l 0 a) 1 b) 2 c) 3 d) 4 e ≡ a ∷ b ∷ c ∷ d ∷ e ∷ drop 5 l
five-written [] h a b c d e = absurd (omega arith)
five-written (v ∷ []) h a b c d e = absurd (omega arith)
five-written (v ∷ w ∷ []) h a b c d e = absurd (omega arith)
five-written (v ∷ w ∷ x ∷ []) h a b c d e = absurd (omega arith)
five-written (v ∷ w ∷ x ∷ y ∷ []) h a b c d e = absurd (omega arith)
five-written (v ∷ w ∷ x ∷ y ∷ z ∷ l) h a b c d e = refl

-- ---- rows one after the other

pub row_next : (size i : ℕ) → size * (i + 1) ≡ size * i + size
row_next size i = ap (λ (k : ℕ). size * k) (add-one i) ∙ mul-suc size i

pub row_within : (size i n : ℕ) → i < n → size * i + size ≤ size * n
row_within size i n h = let u : i + 1 ≤ n = omega arith in omega (arith, row_next size i, mul-le-mul_left size u)

-- the part of a row, and the words with a row put into its place
pub part-long : (at size : ℕ) (words : List ℕ) → at + size ≤ length words → length (mid_of at (at + size - at) words) ≡ size
part-long at size words h = mid_len at (at + size) words h ∙ omega arith

pub put-long : (at size : ℕ) (words part : List ℕ) → at + size ≤ length words → length part ≡ size
    → length (put_mid at (at + size - at) words part) ≡ length words
put-long at size words part h l = same_len_mid at (at + size - at) words part (omega (arith, part-long at size words h))

pub rows_last : (row : Stream → List ℕ) (xs : List Stream) (x : Stream) → rows_of row (xs ++ (x ∷ [])) ≡ rows_of row xs ++ row x
rows_last row [] x = append-nil (row x)
rows_last row (y ∷ xs) x = rw (rows_last row xs x) (sym (append_assoc (row y) (rows_of row xs) (row x)))

module _ (row : Stream → List ℕ) (size : ℕ) (long : (x : Stream) → length (row x) ≡ size) where
  rows_at : (xs : List Stream) (i k : ℕ) → i < length xs → k < size → get_or (rows_of row xs) (size * i + k) 0 ≡ get_or (row (get_or xs i no_stream)) k 0
  rows_at [] i k h l = absurd (omega arith)
  rows_at (x ∷ xs) zero k h l =
      let e : size * 0 + k ≡ k = omega (arith, mul-zero size) in
      rw e (get_or-append (row x) (rows_of row xs) 0 k (omega (arith, long x)))
  rows_at (x ∷ xs) (suc i) k h l =
      let e : size * suc i + k ≡ length (row x) + (size * i + k) = omega (arith, mul-suc size i, long x) in
      rw (e, get_or-append-add (row x) (rows_of row xs) (size * i + k) 0) (rows_at xs i k (omega arith) l)

  module _ (words : List ℕ) (xs : List Stream) (n : ℕ) (e : take (size * n) words ≡ rows_of row xs) where
    -- a word by its row and its place there
    pub words-at : n ≡ length xs → (i k : ℕ) → i < n → k < size → get_or words (size * i + k) 0 ≡ get_or (row (get_or xs i no_stream)) k 0
    words-at m i k h l =
        sym (get_or-take (size * n) words (size * i + k) 0 (omega (arith, row_within size i n h)))
        ∙ rw e (rows_at xs i k (omega arith) l)

    -- one more row
    pub words-next : (x : Stream) (part : List ℕ) → size * n + size ≤ length words → part ≡ row x
        → take (size * (n + 1)) (put_mid (size * n) (size * n + size - size * n) words part) ≡ rows_of row (xs ++ (x ∷ []))
    words-next x part h q =
        let end = size * n + size - size * n in
        let front : length (take (size * n) words) ≡ size * n = length-take-le (size * n) words (omega arith) in
        let z : size * (n + 1) ≡ length (take (size * n) words) + size = omega (arith, row_next size n) in
        rw (z, q, take-append-add (take (size * n) words) (row x ++ drop end (drop (size * n) words)) size, take_at (row x) (drop end (drop (size * n) words)) size (long x), e, rows_last row xs x)

-- ---- marks

-- the first mark, and any other
pub mark-at : (f : List ℕ) (x : Stream) (j : ℕ) → j < mark_count → get_or (marks_of f x) j 0 ≡ mark_of f x j
unfolding marks_of
mark-at f x j h = per_round-at (mark_of f x) 0 mark_count j h ∙ ap (mark_of f x) (omega arith)

-- ---- bookings with their marks

pub streams-marked : (f : List ℕ) (xs : List Stream) (ms : List Marked) → ms ≡ map (marked_of f) xs → streams_in ms ≡ xs
streams-marked f xs ms e = ap streams_in e ∙ go xs
  where
    go : (ys : List Stream) → streams_in (map (marked_of f) ys) ≡ ys
    go [] = refl
    go (y ∷ ys) = ap (λ (l : List Stream). y ∷ l) (go ys)

-- the bookings without their marks, one by one
pub streams-at : (ms : List Marked) (i : ℕ) → i < length ms → get_or (streams_in ms) i no_stream ≡ (get_or ms i no_marked).stream
streams-at ms i h = get_or-map (λ (m : Marked). m.stream) ms i no_marked no_stream h

pub streams-long : (ms : List Marked) → length (streams_in ms) ≡ length ms
streams-long ms = length-map ms (λ (m : Marked). m.stream)

-- and with them
pub marked-at : (f : List ℕ) (ms : List Marked) (i : ℕ) → ms ≡ map (marked_of f) (streams_in ms) → i < length ms
    → get_or ms i no_marked ≡ marked_of f (get_or ms i no_marked).stream
marked-at f ms i e h =
    ap (λ (l : List Marked). get_or l i no_marked) e
    ∙ get_or-map (marked_of f) (streams_in ms) i no_stream no_marked (omega (arith, streams-long ms))
    ∙ ap (marked_of f) (streams-at ms i h)
