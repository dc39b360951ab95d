-- What the tests of each stream show. Assumes nothing.
use Rattle.std.specs.Prelude.{◌≡◌, true, not, List, map, ℕ, ◌≤◌, get_or, leb, eqb, Option, Some, None}
use Rattle.std.proofs.Common.{arith, leb-true}
use Rattle.std.proofs.lemmas.List.{length-map, get_or-map}
use Rattle.limits.specs.Bounds.{max_prefetch, max_reserve, max_day}
use Rattle.laws.specs.Tests.{left, right, all, all-at}
use Rattle.films.specs.Sizes.{Stored}
use Rattle.films.specs.Questions.{verdict}
use Rattle.films.specs.Catalogue.{catalogue_of}
use Rattle.films.specs.Lookup.{lookup_in, Says}
use Rattle.films.proofs.LookupLaws.{lookup-says}
use Rattle.films.specs.declared.lookup.Place.{Place}
use Rattle.model.specs.Calls.{no_booking}
use Rattle.model.specs.declared.Booking.{Booking}
use Rattle.load.specs.Stream.{no_stream, end_of}
use Rattle.load.specs.Streams.{placed, stream_of}
use Rattle.load.specs.Basic.{ends_by, basic_of, Bounded, Playable, Within, EachOf}
use Rattle.load.specs.declared.stream.Stream.{Stream}

-- a stream that passes ends within the day
pub basic-within : (T : ℕ) (x : Stream) → basic_of T x ≡ true → Within T x
unfolding basic_of ends_by
basic-within T x e =
    leb-true (end_of x) T
    (right (not (eqb x.cabs 0))
    (right (leb x.reserve max_reserve) (right (leb x.prefetch max_prefetch) (right (leb 1 x.rounds) e))))

-- and is within the bounds
pub basic-bounded : (T : ℕ) (x : Stream) → T ≤ max_day → basic_of T x ≡ true → Bounded x
unfolding basic_of
basic-bounded T x h e =
    let e₁ = right (leb 1 x.rounds) e in
    let e₂ = right (leb x.prefetch max_prefetch) e₁ in
    record {
      some = leb-true 1 x.rounds (left (leb 1 x.rounds) _ e);
      prefetch = leb-true x.prefetch max_prefetch (left (leb x.prefetch max_prefetch) _ e₁);
      reserve = leb-true x.reserve max_reserve (left (leb x.reserve max_reserve) _ e₂);
      ends = omega (arith, basic-within T x e);
    }

-- a stream with rounds has its sizes in an accepted file
pub stream-stored : (s : List ℕ) (b : Booking) → verdict s ≡ 0 → 1 ≤ (stream_of (catalogue_of s) b).rounds
    → Stored s (stream_of (catalogue_of s) b).at (stream_of (catalogue_of s) b).rounds
unfolding stream_of
stream-stored s b e h = go (lookup_in (catalogue_of s) b.film) (lookup-says s e b.film) h
  where
    go : (l : Option Place) → Says s b.film l → 1 ≤ (placed b l).rounds → Stored s (placed b l).at (placed b l).rounds
    go (Some place) f k = f.stored
    go None f k = absurd (omega arith)

-- ---- of each stream

pub each-bounded : (T : ℕ) (xs : List Stream) → T ≤ max_day → all (basic_of T) xs ≡ true → EachOf Bounded xs
each-bounded T xs h e i u = basic-bounded T (get_or xs i no_stream) h (all-at (basic_of T) xs no_stream e i u)

pub each_within : (T : ℕ) (xs : List Stream) → all (basic_of T) xs ≡ true → EachOf (Within T) xs
each_within T xs e i u = basic-within T (get_or xs i no_stream) (all-at (basic_of T) xs no_stream e i u)

-- and of the streams of bookings in an accepted file
pub each-playable : (T : ℕ) (s : List ℕ) (bs : List Booking) → T ≤ max_day → verdict s ≡ 0
    → all (basic_of T) (map (stream_of (catalogue_of s)) bs) ≡ true → EachOf (Playable s) (map (stream_of (catalogue_of s)) bs)
each-playable T s bs h v e i u =
    let xs = map (stream_of (catalogue_of s)) bs in
    let b = each-bounded T xs h e i u in
    let place : get_or xs i no_stream ≡ stream_of (catalogue_of s) (get_or bs i no_booking) =
    get_or-map (stream_of (catalogue_of s)) bs i no_booking no_stream (omega (arith, length-map bs (stream_of (catalogue_of s)))) in
    record { bounded = b; stored = rw place (stream-stored s (get_or bs i no_booking) v (rw place at b.some)) }
