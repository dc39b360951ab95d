-- A booking's rounds from the last to the first: what it holds, and what is carried. Assumes nothing.
use Rattle.std.specs.Prelude.{◌≡◌, Bool, true, false, List, ℕ, suc, ◌+◌, ◌-◌, ◌≤◌, ◌<◌, min, length, get_or}
use Rattle.std.proofs.Common.{sym, ap, ◌∙◌, arith}
use Rattle.std.proofs.Math.Decide.{dec_le}
use Rattle.retrieval.proofs.CarryLaws.{carry-drop, profile-at}
use Rattle.retrieval.specs.Stored.{max_held}
use Rattle.retrieval.proofs.Stored.{length-sends_at, drop_all, held-bound}
use Rattle.load.specs.Basic.{Playable}
use Rattle.load.specs.Stream.{sends_of, end_of, profile_of, open_in, holds_in, carry_from}
use Rattle.load.specs.StreamLaws.{open-within, open-place, cond-most}
use Rattle.load.specs.declared.stream.Stream.{Stream}

-- a booking never holds more than max_held
pub holds-most : (f : List ℕ) (t : ℕ) (x : Stream) → Playable f x → holds_in f t x ≤ max_held
holds-most f t x p =
    cond-most (open_in t x) (get_or (profile_of f x) (t - x.start) 0) max_held
    (held-bound f x.at x.rounds x.prefetch x.reserve (t - x.start) p.stored)

module _ (f : List ℕ) (x : Stream) where
  long : length (sends_of f x) ≡ x.prefetch + x.rounds
  long = length-sends_at f x.at x.rounds x.prefetch

  -- nothing is carried from a round after the last
  pub carry-late : (t : ℕ) → end_of x ≤ t → carry_from f t x ≡ 0
  carry-late t h = drop_all (sends_of f x) (t - x.start) x.reserve (omega (arith, long))

  -- a round in which it is not open carries what the next does
  pub carry-shut : (t : ℕ) → open_in t x ≡ false → carry_from f (t + 1) x ≡ carry_from f t x
  carry-shut t o = go (dec_le (end_of x) t) (dec_le x.start t)
    where
      go : Dec (end_of x ≤ t) → Dec (x.start ≤ t) → carry_from f (t + 1) x ≡ carry_from f t x
      go (yes h) k = carry-late (t + 1) (omega arith) ∙ sym (carry-late t h)
      go (no h) (yes k) = let z : ◌≡◌ {A = Bool} false true = sym o ∙ open-within t x k (omega arith) in cc
      go (no h) (no k) = let e : t + 1 - x.start ≡ t - x.start = omega arith in rw e

  -- one in which it is: what it sends and what is carried from the next is held, and what is held above the reserve is carried
  module _ (t : ℕ) (o : open_in t x ≡ true) where
    next : t + 1 - x.start ≡ suc (t - x.start)
    next = omega (arith, (open-place t x o).0)

    inside : t - x.start < length (sends_of f x)
    inside = omega (arith, long, open-place t x o)

    pub holds-open : holds_in f t x ≡ get_or (sends_of f x) (t - x.start) 0 + carry_from f (t + 1) x
    holds-open = rw (o, next) (profile-at x.reserve (sends_of f x) (t - x.start) inside)

    pub carry-open : carry_from f t x ≡ holds_in f t x - x.reserve
    carry-open = rw holds-open (rw next (carry-drop x.reserve (sends_of f x) (t - x.start) inside))

  -- the same round, counted otherwise
  pub carry-round : (c t k : ℕ) → t ≡ k → c ≡ carry_from f t x → c ≡ carry_from f k x
  carry-round c t k e h = rw (← e) h

  -- rounds after the booking's end are left out
  pub carry-cut : (t k : ℕ) → min t (end_of x) ≤ k → k ≤ t → carry_from f t x ≡ carry_from f k x
  carry-cut t k h l = go (dec_le (end_of x) k)
    where
      go : Dec (end_of x ≤ k) → carry_from f t x ≡ carry_from f k x
      go (yes e) = carry-late t (omega arith) ∙ sym (carry-late k e)
      go (no e) = let q : t ≡ k = omega arith in ap (λ (w : ℕ). carry_from f w x) q
