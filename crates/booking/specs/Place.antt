-- What the search asks of a film and of the sheet. Assumes nothing.
use Rattle.std.specs.Prelude.{◌≡◌, refl, Bool, true, false, cond, ◌||◌, List, [], ◌∷◌, ℕ, ◌+◌, ◌-◌, ◌^◌, ◌≤◌, ◌<◌, length, get_or, eqb}
use Rattle.std.proofs.Common.{arith, eqb-true}
use Rattle.limits.specs.Bounds.{max_bookings, max_reserve, max_day}
use Rattle.laws.specs.Words.{Bytes}
use Rattle.films.specs.Layout.{Film, Each, in_file}
use Rattle.films.specs.Questions.{verdict}
use Rattle.films.specs.Decode.{films_of}
use Rattle.films.proofs.Theorems.{accepts, films-of}
use Rattle.retrieval.specs.Stored.{max_held}
use Rattle.retrieval.proofs.Stored.{held-bound}
use Rattle.load.specs.Stream.{no_stream, length_of, open_in, holds_in, profile_of, open_count, reserved_in, held_in}
use Rattle.load.specs.StreamLaws.{cond-most}
use Rattle.load.specs.Basic.{Playable, EachOf}
use Rattle.load.specs.declared.stream.Stream.{Stream}
use Rattle.rounds.specs.Sheet.{Places, DaySheet}
use Rattle.rounds.specs.DaySheetLaws.{total-most, worked-at, length-worked}
use Rattle.search.specs.Fit.{query_of, Window}

-- ---- a film of an accepted file has a 16-bit number

each-small : (fs : List Film) (k : ℕ) → Each fs → in_file fs k ≡ true → k < 2 ^ 16
each-small [] k v e = let z : ◌≡◌ {A = ℕ} 0 1 = cc in absurd (omega arith)
each-small (f ∷ fs) k v e = go (eqb f.number k) refl e (each-small fs k v.1)
  where
    go : (b : Bool) → eqb f.number k ≡ b → b || in_file fs k ≡ true → (in_file fs k ≡ true → k < 2 ^ 16) → k < 2 ^ 16
    go true u w i = omega (arith, eqb-true f.number k u, v.0.number)
    go false u w i = i w

pub film-small : (f : List ℕ) → Bytes f → verdict f ≡ 0 → (k : ℕ) → in_file (films_of f) k ≡ true → k < 2 ^ 16
film-small f b e k h =
    let o = (accepts f b).0 e in
    each-small o.films k o.valid.each (rw (films-of f o) at h)

-- ---- what the search asks, of a day's sheet

module _ (f : List ℕ) (xs : List Stream) (T : ℕ) (o₀ r₀ h₀ o r h : List ℕ) (summed : DaySheet f xs T o₀ r₀ h₀ o r h) (few : length xs < max_bookings)
    (good : EachOf (Playable f) xs) (places : Places T o₀ r₀ h₀) (small : T ≤ max_day) where
  pub sheet-window : (y : Stream) (p : List ℕ) (D M last : ℕ) → last + length_of y ≤ T → Window (query_of y p xs o r h D M) last
  sheet-window y p D M last k =
      record {
        day = omega arith;
        disk =
            record {
              opens-long = omega (arith, length-worked T (λ t. open_count t xs) o₀ o summed.films places.opens-places, places.opens-places);
              reserves-long = omega (arith, length-worked T (λ t. reserved_in t xs) r₀ r summed.reserved places.reserves-places, places.reserves-places);
              opens_small = λ t u.
                  omega (
                    arith,
                    worked-at T (λ s. open_count s xs) o₀ o summed.films t (omega arith),
                    total-most (λ x. cond (open_in t x) 1 0) 1 xs (λ i v. cond-most (open_in t (get_or xs i no_stream)) 1 1 (omega arith)),
                  );
              reserves-small = λ t u.
                  omega (
                    arith,
                    worked-at T (λ s. reserved_in s xs) r₀ r summed.reserved t (omega arith),
                    total-most (λ x. cond (open_in t x) x.reserve 0) max_reserve xs
                        (λ i v. cond-most (open_in t (get_or xs i no_stream)) (get_or xs i no_stream).reserve max_reserve (good i v).bounded.reserve),
                  );
            };
        memory =
            record {
              long = omega (arith, length-worked T (λ t. held_in f t xs) h₀ h summed.held places.helds-places, places.helds-places);
              small = λ t u.
                  omega (
                    arith,
                    worked-at T (λ s. held_in f s xs) h₀ h summed.held t (omega arith),
                    total-most (holds_in f t) max_held xs
                        (λ i v.
                        let x = get_or xs i no_stream in
                        cond-most (open_in t x) (get_or (profile_of f x) (t - x.start) 0) max_held
                        (held-bound f x.at x.rounds x.prefetch x.reserve (t - x.start) (good i v).stored)),
                  );
            };
        standing = λ i v. (good i v).bounded.ends;
      }
