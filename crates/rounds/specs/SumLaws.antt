-- The sums of a round, booking by booking. Assumes nothing.
use Rattle.std.specs.Prelude.{◌≡◌, Bool, List, [], ◌∷◌, ℕ, suc, ◌+◌, ◌-◌, ◌*◌, ◌≤◌, ◌<◌, length, get_or, drop}
use Rattle.std.proofs.Math.Path.{refl}
use Rattle.std.proofs.Common.{sym, ap, ap₂, ◌∙◌, add-one, drop-cons, get_or-append-add}
use Rattle.std.proofs.Math.Bool.{true, false, cond}
use native.Mathlib.Omega.{arith}
use Rattle.std.proofs.Math.Seq.{drop-length}
use Rattle.limits.specs.Bounds.{max_bookings, max_reserve}
use Rattle.retrieval.specs.Stored.{max_held}
use Rattle.model.proofs.CodeLaws.{per_round-at}
use Rattle.load.specs.Stream.{no_stream, open_in, profile_of, holds_in, open_count, reserved_in, held_in}
use Rattle.load.specs.StreamLaws.{cond-most}
use Rattle.load.specs.declared.stream.Stream.{Stream}
use Rattle.rounds.specs.Rows.{open_between, active, head_words, head_of, helds_of, row_of, BlockOf}
use Rattle.rounds.specs.RowLaws.{between-shut, row_word}
use Rattle.rounds.specs.CarryLaws.{holds-most}
use Rattle.rounds.specs.Sums.{head_from, head_at, open_head, added, with_one, sums_from, RoomFor, none}
use Rattle.rounds.specs.declared.block.Block.{Block}
use Rattle.rounds.specs.declared.sums.Head.{Head}
use Rattle.rounds.specs.declared.sums.Sums.{Sums}
use borrow.Author.Tests.{lt-ltb, le-ltb, le-leb, lt-leb}

-- ---- one booking more

pub open-head : (t : ℕ) (x : Stream) → open_head t (head_from x) ≡ open_in t x
unfolding open_head open_in
open-head t x = refl

module _ (t : ℕ) (s : Sums) (h : Head) (held : ℕ) where
  one-shut : open_head t h ≡ false → with_one t s h held ≡ s
  unfolding with_one
  one-shut o = rw o

  -- of each sum
  one-films : (with_one t s h held).films ≡ s.films + cond (open_head t h) 1 0
  unfolding with_one
  one-films = go (open_head t h)
    where
      go : (o : Bool) → (cond o (added t s h held) s).films ≡ s.films + cond o 1 0
      go true = refl
      go false = omega arith

  one-reserves : (with_one t s h held).reserves ≡ s.reserves + cond (open_head t h) h.reserve 0
  unfolding with_one
  one-reserves = go (open_head t h)
    where
      go : (o : Bool) → (cond o (added t s h held) s).reserves ≡ s.reserves + cond o h.reserve 0
      go true = refl
      go false = omega arith

  one-held : (with_one t s h held).held ≡ s.held + cond (open_head t h) held 0
  unfolding with_one
  one-held = go (open_head t h)
    where
      go : (o : Bool) → (cond o (added t s h held) s).held ≡ s.held + cond o held 0
      go true = refl
      go false = omega arith

-- ---- the sums are those of the streams

module _ (f : List ℕ) (t : ℕ) where
  pub sums-films : (s : Sums) (xs : List Stream) → (sums_from f t s xs).films ≡ s.films + open_count t xs
  sums-films s [] = omega arith
  sums-films s (x ∷ xs) =
      let s' = with_one t s (head_from x) (holds_in f t x) in
      omega (arith, sums-films s' xs, rw (open-head t x) at (one-films t s (head_from x) (holds_in f t x)))

  pub sums-reserves : (s : Sums) (xs : List Stream) → (sums_from f t s xs).reserves ≡ s.reserves + reserved_in t xs
  sums-reserves s [] = omega arith
  sums-reserves s (x ∷ xs) =
      let s' = with_one t s (head_from x) (holds_in f t x) in
      omega (arith, sums-reserves s' xs, rw (open-head t x) at (one-reserves t s (head_from x) (holds_in f t x)))

  pub sums-held : (s : Sums) (xs : List Stream) → (sums_from f t s xs).held ≡ s.held + held_in f t xs
  sums-held s [] = omega arith
  sums-held s (x ∷ xs) =
      let s' = with_one t s (head_from x) (holds_in f t x) in
      omega (arith, sums-held s' xs, rw (open-head t x) at (one-held t s (head_from x) (holds_in f t x)), shut-holds (open_in t x) (get_or (profile_of f x) (t - x.start) 0))
    where
      shut-holds : (o : Bool) (a : ℕ) → cond o (cond o a 0) 0 ≡ cond o a 0
      shut-holds true a = refl
      shut-holds false a = refl

  -- in the rounds of a block, those of the bookings open in one of them
  pub sums-active : (from to : ℕ) → from ≤ t → t < to → (s : Sums) (xs : List Stream) → sums_from f t s (active from to xs) ≡ sums_from f t s xs
  sums-active from to u v s [] = refl
  sums-active from to u v s (x ∷ xs) = go (open_between from to x) refl (sums-active from to u v s' xs) (sums-active from to u v s xs)
    where
      s' : Sums
      s' = with_one t s (head_from x) (holds_in f t x)

      go : (o : Bool) → open_between from to x ≡ o → sums_from f t s' (active from to xs) ≡ sums_from f t s' xs
          → sums_from f t s (active from to xs) ≡ sums_from f t s xs
          → sums_from f t s (cond o (x ∷ active from to xs) (active from to xs)) ≡ sums_from f t s' xs
      go true o e d = e
      go false o e d = rw (one-shut t s (head_from x) (holds_in f t x) (open-head t x ∙ between-shut from to x o t u v)) d

-- ---- no sum grows too large

-- sums of i bookings
pub record Within (s : Sums) (i : ℕ) : Type 0 where
  pub films : s.films ≤ i
  pub reserves : s.reserves ≤ max_reserve * i
  pub held : s.held ≤ max_held * i

module _ (t : ℕ) (s : Sums) (i : ℕ) (h : Head) (held : ℕ) (w : Within s i) (r : h.reserve ≤ max_reserve) (k : held ≤ max_held) where
  pub within-room : i < max_bookings → RoomFor s h held
  within-room u = record { films = omega (arith, w.films); reserves = omega (arith, w.reserves); held = omega (arith, w.held) }

  pub within-next : Within (with_one t s h held) (i + 1)
  within-next =
      record {
        films = omega (arith, w.films, one-films t s h held, cond-most (open_head t h) 1 1 (omega arith));
        reserves = omega (arith, w.reserves, one-reserves t s h held, cond-most (open_head t h) h.reserve max_reserve r);
        held = omega (arith, w.held, one-held t s h held, cond-most (open_head t h) held max_held k);
      }

-- ---- the rows of a block

module _ (f : List ℕ) (ys : List Stream) (b : Block) (words : List ℕ) (w : BlockOf f ys b words) (i : ℕ) (h : i < b.bookings) where
  abbrev x : Stream
  x = get_or ys i no_stream

  abbrev at : ℕ
  at = (head_words + b.rounds) * i

  word : (k : ℕ) → k < head_words + b.rounds → get_or words (at + k) 0 ≡ get_or (row_of f b.from b.rounds x) k 0
  word k l = row_word f ys b.from b.rounds b.bookings words w.table i k h l

  pub block-head : head_at words at ≡ head_from x
  block-head =
      let e : at ≡ at + 0 = omega arith in
      cc (ap (λ (k : ℕ). get_or words k 0) e, word 0 (omega arith), word 1 (omega arith), word 2 (omega arith), word 3 (omega arith), word 4 (omega arith))

  pub block_held : (k : ℕ) → k < b.rounds → get_or words (at + (head_words + k)) 0 ≡ holds_in f (b.from + k) x
  block_held k l =
      word (head_words + k) (omega arith)
      ∙ get_or-append-add (head_of x []) (helds_of f b.from b.rounds x) k 0
      ∙ per_round-at (λ t. holds_in f t x) b.from b.rounds k l

  -- no word grows too large
  pub block-reserve : (head_at words at).reserve ≤ max_reserve
  block-reserve = omega (arith, ap (λ (r : Head). r.reserve) block-head, (w.playable i h).bounded.reserve)

  pub block-small : (k : ℕ) → k < b.rounds → get_or words (at + (head_words + k)) 0 ≤ max_held
  block-small k l = rw (block_held k l) (holds-most f (b.from + k) x (w.playable i h))

  -- a turn of the loop
  pub block-turn : (k : ℕ) → k < b.rounds → (s : Sums)
      → sums_from f (b.from + k) s (drop i ys)
      ≡ sums_from f (b.from + k) (with_one (b.from + k) s (head_at words at) (get_or words (at + (head_words + k)) 0)) (drop (i + 1) ys)
  block-turn k l s =
      let t = b.from + k in
      ap (sums_from f t s) (drop-cons ys i no_stream (omega (arith, w.table.bookings)))
      ∙ ap (λ (r : Sums). sums_from f t r (drop (suc i) ys)) (ap₂ (λ (r : Head) (v : ℕ). with_one t s r v) (sym block-head) (sym (block_held k l)))
      ∙ ap (λ (j : ℕ). sums_from f t (with_one t s (head_at words at) (get_or words (at + (head_words + k)) 0)) (drop j ys)) (sym (add-one i))

-- and its end
pub block-end : (f : List ℕ) (t : ℕ) (s : Sums) (ys : List Stream) (i : ℕ) → i ≡ length ys → sums_from f t s (drop i ys) ≡ s
block-end f t s ys i e = rw (e, drop-length ys)

module _ (t : ℕ) (s : Sums) (h : Head) (held : ℕ) where
  pub one-early : t < h.start → s ≡ with_one t s h held
  unfolding with_one open_head
  one-early e = rw (lt-leb h.start t e)

  pub one-late : h.start ≤ t → h.end ≤ t → s ≡ with_one t s h held
  unfolding with_one open_head
  one-late e l = rw (le-leb h.start t e, le-ltb t h.end l)

  pub one-open : h.start ≤ t → t < h.end → with_one t s h held ≡ added t s h held
  unfolding with_one open_head
  one-open e l = rw (le-leb h.start t e, lt-ltb t h.end l)

pub within_none : Within none 0
within_none = record { films = omega arith; reserves = omega arith; held = omega arith }
