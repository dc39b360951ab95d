-- Looking a film up in a catalogue: "is the film in the file?" (8), and where its sizes stand.
use Rattle.std.specs.Prelude.{◌≡◌, refl, Bool, true, false, cond, List, [], ◌∷◌, ℕ, zero, suc, ◌+◌, ◌≤◌, Option, Some, None, find, eqb}
use Rattle.std.specs.Option.{option_map}
use Rattle.std.proofs.Common.{arith}
use Rattle.laws.specs.Questions.{refusal}
use Rattle.limits.specs.Refusals.{no_film}
use Rattle.films.specs.Layout.{Film, in_file}
use Rattle.films.specs.Span.{span}
use Rattle.films.specs.Questions.{verdict, films_in, entry_number}
use Rattle.films.specs.Decode.{film_at, films_of}
use Rattle.films.specs.Catalogue.{entry_of, listed, catalogue_of}
use Rattle.films.proofs.CatalogueLaws.{catalogue-listed}
use Rattle.films.specs.Accepted.{Accepted}
use Rattle.films.proofs.Accepted.{accepted}
use Rattle.films.proofs.FilmLaws.{film-stored, rounds-some}
use Rattle.films.specs.declared.file.Entry.{Entry}
use Rattle.films.specs.declared.lookup.Place.{Place}
use Rattle.films.specs.Lookup.{FoundAt, Part, Says, place_of, lookup_in, lookup_refusal}

-- a film in front of a part
part-cons : (s : List ℕ) (f : Film) (fs : List Film) (k : ℕ) (l : Option Place) → eqb f.number k ≡ false → Part s fs k l → Part s (f ∷ fs) k l
part-cons s f fs k (Some place) e p = (rw e p.0, (rw e p.1.0, p.1.1))
part-cons s f fs k None e p = rw e p

-- the place of film k among n entries from entry i on
abbrev among : List ℕ → ℕ → ℕ → ℕ → Option Place
among s k i n = option_map place_of (find (λ entry. eqb entry.number k) (span (entry_of s) i n))

among-says : (s : List ℕ) → Accepted s → (k i n : ℕ) → i + n ≤ films_in s → Part s (span (film_at s) i n) k (among s k i n)
among-says s a k i zero h = refl
among-says s a k i (suc n) h = go (eqb (entry_number s i) k) refl (among-says s a k (suc i) n (omega arith))
  where
    go : (b : Bool) → eqb (entry_number s i) k ≡ b → Part s (span (film_at s) (suc i) n) k (among s k (suc i) n)
        → Part s (span (film_at s) i (suc n)) k
        (option_map place_of (cond b (Some (entry_of s i)) (find (λ entry. eqb entry.number k) (span (entry_of s) (suc i) n))))
    go true e p = (rw e, (rw e, (film-stored s a i (omega arith), rounds-some s a i (omega arith))))
    go false e p = part-cons s (film_at s i) (span (film_at s) (suc i) n) k (among s k (suc i) n) e p

-- the file's films are all of its parts
says-part : (s : List ℕ) (k : ℕ) (l : Option Place) → Part s (films_of s) k l → Says s k l
says-part s k (Some place) p = record { inside = p.0; are = p.1.0; stored = p.1.1.0; some = p.1.1.1 }
says-part s k None p = p

-- of an accepted file the lookup says whether the film is in it, and where its sizes stand
pub listed-says : (s : List ℕ) → verdict s ≡ 0 → (k : ℕ) → Says s k (lookup_in (listed s) k)
unfolding films_of listed lookup_in
listed-says s e k = says-part s k (among s k 0 (films_in s)) (among-says s (accepted s e) k 0 (films_in s) (omega arith))

-- .. by a list that holds the file's entries
pub entries-say : (s : List ℕ) (films : List Entry) (k : ℕ) (l : Option Place) → verdict s ≡ 0 → films ≡ listed s → l ≡ lookup_in films k → Says s k l
entries-say s films k l e f q = rw (q, f) (listed-says s e k)

pub lookup-says : (s : List ℕ) → verdict s ≡ 0 → (k : ℕ) → Says s k (lookup_in (catalogue_of s) k)
lookup-says s e k = rw (catalogue-listed s e) (listed-says s e k)

-- .. by each answer
pub says-found : (s : List ℕ) → verdict s ≡ 0 → (k : ℕ) (place : Place) → lookup_in (catalogue_of s) k ≡ Some place → FoundAt s k place.at place.rounds
says-found s e k place q = rw q at (lookup-says s e k)

pub says-missing : (s : List ℕ) → verdict s ≡ 0 → (k : ℕ) → lookup_in (catalogue_of s) k ≡ None → in_file (films_of s) k ≡ false
says-missing s e k q = rw q at (lookup-says s e k)

-- the number is that of the question
pub lookup-number : (s : List ℕ) → verdict s ≡ 0 → (k : ℕ)
    → lookup_refusal (lookup_in (catalogue_of s) k) ≡ refusal ((in_file (films_of s) k, no_film) ∷ [])
lookup-number s e k = go (lookup_in (catalogue_of s) k) (lookup-says s e k)
  where
    go : (l : Option Place) → Says s k l → lookup_refusal l ≡ refusal ((in_file (films_of s) k, no_film) ∷ [])
    go (Some place) f = rw f.inside
    go None f = rw f
