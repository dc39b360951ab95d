-- The films of an accepted file, one by one: where each one's sizes stand, and that they are within the limits. Assumes nothing.
use Rattle.std.specs.Prelude.{ℕ, zero, suc, ◌+◌, ◌*◌, ◌<◌, ◌≤◌, ◌≡◌, List, length, get_or, leb}
use Rattle.std.proofs.Common.{⊎_elim, arith, eq-or-lt_of_le, leb-true}
use Rattle.std.proofs.Math.Decide.{dec_lt}
use Rattle.std.proofs.Math.ListN.{get_or-eq_default}
use Rattle.laws.specs.Tests.{left, right, all-at}
use Rattle.limits.specs.Bounds.{max_rounds, max_size}
use Rattle.films.specs.Sizes.{size, sizes, Stored}
use Rattle.films.proofs.SizeLaws.{length-sizes, get_or-sizes}
use Rattle.films.specs.Questions.{films_in, entry_rounds, rounds_before, sizes_in, sizes_at, rounds_in_range}
use Rattle.films.specs.Decode.{offset}
use Rattle.films.specs.Accepted.{Accepted}

-- the sum of the n never falls
pub rounds-rise : (s : List ℕ) (i j : ℕ) → i ≤ j → rounds_before s i ≤ rounds_before s j
rounds-rise s i zero h = let e : i ≡ 0 = omega arith in rw e (omega arith)
rounds-rise s i (suc j) h =
    ⊎_elim (λ e. rw e (omega arith)) (λ l. omega (arith, rounds-rise s i j (omega arith))) (eq-or-lt_of_le h)

-- "each n 1 to 4,096"
pub rounds-some : (s : List ℕ) → Accepted s → (i : ℕ) → i < films_in s → 1 ≤ entry_rounds s i
unfolding rounds_in_range
rounds-some s a i h = leb-true _ _ (left (leb 1 (entry_rounds s i)) (leb (entry_rounds s i) max_rounds) (a.passes i h).1)

pub rounds-few : (s : List ℕ) → Accepted s → (i : ℕ) → i < films_in s → entry_rounds s i ≤ max_rounds
unfolding rounds_in_range
rounds-few s a i h = leb-true _ _ (right (leb 1 (entry_rounds s i)) (a.passes i h).1)

-- entry i's sizes end no later than the file
pub film-within : (s : List ℕ) → Accepted s → (i : ℕ) → i < films_in s → rounds_before s i + entry_rounds s i ≤ sizes_in s
film-within s a i h = omega (arith, rounds-rise s (suc i) (films_in s) h, a.total)

-- size j of all that stand in the file
size_small : (s : List ℕ) → Accepted s → (j : ℕ) → j < sizes_in s → size s (sizes_at s + 4 * j) ≤ max_size
size_small s a j h =
    let l : j < length (sizes s (sizes_at s) (sizes_in s)) = omega (arith, length-sizes s (sizes_at s) (sizes_in s)) in
    let t = all-at (λ x. leb x max_size) (sizes s (sizes_at s) (sizes_in s)) 0 a.small j l in
    omega (arith, leb-true (get_or (sizes s (sizes_at s) (sizes_in s)) j 0) max_size t, get_or-sizes s (sizes_at s) (sizes_in s) j h)

pub film-stored : (s : List ℕ) → Accepted s → (i : ℕ) → i < films_in s → Stored s (offset s i) (entry_rounds s i)
film-stored s a i h = record {
  within = omega (arith, film-within s a i h, a.ends);
  few = rounds-few s a i h;
  small = λ j. go j (dec_lt j (entry_rounds s i));
}
  where
    go : (j : ℕ) → Dec (j < entry_rounds s i) → get_or (sizes s (offset s i) (entry_rounds s i)) j 0 ≤ max_size
    go j (yes l) =
        let e : sizes_at s + 4 * (rounds_before s i + j) ≡ offset s i + 4 * j = omega arith in
        let b = size_small s a (rounds_before s i + j) (omega (arith, film-within s a i h)) in
        rw (get_or-sizes s (offset s i) (entry_rounds s i) j l) (rw e at b)
    go j (no l) =
        let n : length (sizes s (offset s i) (entry_rounds s i)) ≤ j = omega (arith, length-sizes s (offset s i) (entry_rounds s i)) in
        omega (arith, get_or-eq_default (sizes s (offset s i) (entry_rounds s i)) 0 n)
