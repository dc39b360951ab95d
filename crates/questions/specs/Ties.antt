-- The streams that the code makes of bookings by the catalogue of an accepted file are tied to them. Assumes nothing.
use Rattle.std.specs.Prelude.{◌≡◌, refl, Bool, true, false, cond, ◌||◌, List, [], ◌∷◌, map, ℕ, Option, Some, None, eqb}
use Rattle.std.proofs.Common.{sym, ◌∙◌, arith, le-leb}
use Rattle.films.specs.Layout.{Film, in_file, sizes_of}
use Rattle.films.specs.Questions.{verdict}
use Rattle.films.specs.Decode.{films_of}
use Rattle.films.specs.Catalogue.{catalogue_of}
use Rattle.films.specs.Lookup.{lookup_in, Says}
use Rattle.films.proofs.LookupLaws.{lookup-says}
use Rattle.films.specs.declared.lookup.Place.{Place}
use Rattle.model.specs.Day.{Setting}
use Rattle.model.specs.declared.Booking.{Booking}
use Rattle.load.specs.Streams.{placed, stream_of}
use Rattle.questions.specs.Tied.{Tied, AllTied}

-- a film that is not in the file has no sizes
missing-sizes : (fs : List Film) (k : ℕ) → in_file fs k ≡ false → sizes_of fs k ≡ []
missing-sizes [] k e = refl
missing-sizes (f ∷ fs) k e = go (eqb f.number k) e (missing-sizes fs k)
  where
    go : (v : Bool) → v || in_file fs k ≡ false → (in_file fs k ≡ false → sizes_of fs k ≡ []) → cond v f.sizes (sizes_of fs k) ≡ []
    go true u i = let z : ◌≡◌ {A = ℕ} 0 1 = cc in absurd (omega arith)
    go false u i = i u

module _ (S : Setting) (f : List ℕ) (films : S.films ≡ films_of f) (accepted : verdict f ≡ 0) where
  pub placed-tied : (b : Booking) (l : Option Place) → Says f b.film l → Tied S f b (placed b l)
  placed-tied b (Some place) s =
      record {
        start = refl;
        prefetch = refl;
        reserve = refl;
        cabs = refl;
        inside = rw films (s.inside ∙ sym (le-leb 1 place.rounds s.some));
        are = rw films s.are;
        stored = s.stored;
      }
  placed-tied b None s =
      record {
        start = refl;
        prefetch = refl;
        reserve = refl;
        cabs = refl;
        inside = rw films s;
        are = rw films (missing-sizes (films_of f) b.film s);
        stored = record { within = omega arith; few = omega arith; small = λ i. omega arith };
      }

  pub stream-tied : (b : Booking) → Tied S f b (stream_of (catalogue_of f) b)
  unfolding stream_of
  stream-tied b = placed-tied b (lookup_in (catalogue_of f) b.film) (lookup-says f accepted b.film)

  pub streams-tied : (bs : List Booking) → AllTied S f bs (map (stream_of (catalogue_of f)) bs)
  streams-tied [] = tt
  streams-tied (b ∷ bs) = (stream-tied b, streams-tied bs)
