-- A booking with its film's place in the file, its rounds, and the load of a round. Document 01, 'A day at the desk'. `f` is
-- the film file's bytes.
use Rattle.std.specs.Prelude.{Bool, true, cond, not, ◌&&◌, List, [], ◌∷◌, ℕ, ◌+◌, ◌-◌, min, max, get_or, drop, leb, ltb, eqb}
use Rattle.std.specs.Int.Bits.{bit_and}
use Rattle.laws.specs.Tests.{all}
use Rattle.films.specs.Sizes.{sizes}
use Rattle.retrieval.specs.Schedule.{sends}
use Rattle.retrieval.specs.Carry.{carry, profile}
use Rattle.load.specs.declared.stream.Stream.{Stream}

-- a place with no stream
abbrev pub no_stream : Stream
no_stream = record { at = 0; rounds = 0; start = 0; prefetch = 0; reserve = 0; cabs = 0 }

-- what it sends in each of its rounds
abbrev pub sends_of : List ℕ → Stream → List ℕ
sends_of f x = sends x.prefetch (sizes f x.at x.rounds)

-- how many rounds it is open
abbrev pub length_of : Stream → ℕ
length_of x = x.prefetch + x.rounds

-- "Round s+p+n is free of it."
abbrev pub end_of : Stream → ℕ
end_of x = x.start + x.prefetch + x.rounds

-- "A booking is open in rounds s to s+p+n-1."
unfoldable pub open_in : ℕ → Stream → Bool
open_in t x = leb x.start t && ltb t (end_of x)

-- "It shows in rounds s+p to s+p+n-1"
unfoldable pub shows_in : ℕ → Stream → Bool
shows_in t x = leb (x.start + x.prefetch) t && ltb t (end_of x)

-- what its just-in-time schedule holds in each of its rounds
abbrev pub profile_of : List ℕ → Stream → List ℕ
profile_of f x = profile x.reserve (sends_of f x)

-- and in round t
abbrev pub holds_in : List ℕ → ℕ → Stream → ℕ
holds_in f t x = cond (open_in t x) (get_or (profile_of f x) (t - x.start) 0) 0

-- what its rounds from w on leave to be read before w
abbrev pub carry_from : List ℕ → ℕ → Stream → ℕ
carry_from f w x = carry x.reserve (drop (w - x.start) (sends_of f x))

-- ---- the load of round t

-- the sum of a number of each stream
abbrev pub total : (Stream → ℕ) → List Stream → ℕ
total g [] = 0
total g (x ∷ xs) = g x + total g xs

-- films open
abbrev pub open_count : ℕ → List Stream → ℕ
open_count t = total (λ x. cond (open_in t x) 1 0)

-- sum of reserves
abbrev pub reserved_in : ℕ → List Stream → ℕ
reserved_in t = total (λ x. cond (open_in t x) x.reserve 0)

-- sum of bytes held
abbrev pub held_in : List ℕ → ℕ → List Stream → ℕ
held_in f t = total (holds_in f t)

-- ---- cabs by pairs

-- they have a cab in common and show in a common round
unfoldable pub clashes : Stream → Stream → Bool
clashes x y =
    not (eqb (bit_and x.cabs y.cabs) 0)
    && ltb (max (x.start + x.prefetch) (y.start + y.prefetch)) (min (end_of x) (end_of y))

-- "no cab shows two films"
abbrev pub pairs_clear : List Stream → Bool
pairs_clear [] = true
pairs_clear (x ∷ xs) = all (λ y. not (clashes x y)) xs && pairs_clear xs
