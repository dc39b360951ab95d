-- One stream more on the sheet: only the rounds in which it is open are summed again. Assumes nothing.
use Rattle.std.specs.Prelude.{List, [], ◌∷◌, ◌++◌, ℕ, zero, suc, ◌<◌, length}
use Rattle.std.proofs.Common.{arith, le_of_suc-le-suc, not-suc-le-zero, length-append}
use Rattle.limits.specs.Bounds.{max_bookings}
use Rattle.load.specs.Stream.{end_of}
use Rattle.load.specs.Basic.{Playable, EachOf}
use Rattle.load.specs.declared.stream.Stream.{Stream}
use Rattle.rounds.specs.Sheet.{Places, Summable}

-- the stream x is to be put behind xs, and the lists have places for its rounds
pub record Appends (f : List ℕ) (xs : List Stream) (x : Stream) (opens reserves helds : List ℕ) : Type 0 where
  pub few : length xs < max_bookings
  pub playable : EachOf (Playable f) xs
  pub stream : Playable f x
  pub places : Places (end_of x) opens reserves helds

each_more : (P : Stream → Type 0) (xs : List Stream) (x : Stream) → EachOf P xs → P x → EachOf P (xs ++ (x ∷ []))
each_more P [] x e p zero h = p
each_more P [] x e p (suc i) h = absurd (not-suc-le-zero (le_of_suc-le-suc h))
each_more P (y ∷ xs) x e p zero h = e 0 (omega arith)
each_more P (y ∷ xs) x e p (suc i) h = each_more P xs x (λ k u. e (suc k) (omega arith)) p i (le_of_suc-le-suc h)

pub appends-summable : (f : List ℕ) (xs : List Stream) (x : Stream) (o r h : List ℕ) → Appends f xs x o r h
    → Summable f (xs ++ (x ∷ [])) x.start (end_of x) o r h
appends-summable f xs x o r h g =
    record {
      few = omega (arith, length-append xs (x ∷ []), g.few);
      playable = each_more (Playable f) xs x g.playable g.stream;
      order = omega arith;
      day = g.stream.bounded.ends;
      places = g.places;
    }
